-- What `solve_with_ends` promises, for each of its answers.
use Rattle.std.proofs.Common.{◌≡◌, ℕ, ◌+◌, ◌*◌, ◌<◌, ◌≤◌, List, ◌∷◌, length, take, drop, Ok, Err, Result, sym, refl, ap, ◌∙◌, subst, arith}
use Rattle.endless.specs.declared.refusal.Refusal.{Refusal}
use Rattle.endless.specs.declared.refusal.Refusal.TheVariants.{Few, NoGame, NoPlace, OutFull}
use Rattle.endless.specs.Games.{Game, Reads, row}
use Rattle.endless.specs.Says.{WinsFrom, side, goes}
use Rattle.endless.specs.Promises.{SolvedSays, SolvedPost}
use Rattle.ends.specs.Ends.{ReadsEnds, made}
use Rattle.ends.specs.Says.{told, needed, EndsSays, EndsPost, WithoutPost}
use Rattle.ends.specs.Mending.{Mended}
use Rattle.ends.proofs.Made.{wins_made}
use Rattle.ends.proofs.Forms.{length_made, side_fits, made_reads, reads_made, kept_whole}
use Rattle.endless.proofs.Unique.{rows}
use Rattle.ends.proofs.Theorems.{parts, from_made}

pub few_post : (s : List ℕ) (w : ℕ) (o : List ℕ) → w < needed s → EndsPost s w o o (Err Few)
few_post s w o h = record { says = refl; few = (λ x. refl, λ e. h); only = λ e. let z : ◌≡◌ {A = ℕ} 0 1 = cc in absurd (omega arith); as_solve = λ g r l. absurd (omega arith); parts = parts }

pub no_game_post : (s : List ℕ) (w : ℕ) (o : List ℕ) → needed s ≤ w → ((g : Game) → ReadsEnds s g → ⊥) → EndsPost s w o o (Err NoGame)
no_game_post s w o h none = record {
  says = (none, refl);
  few = (λ x. absurd (omega arith), λ e. let z : ◌≡◌ {A = ℕ} 0 1 = cc in absurd (omega arith));
  only = λ e. let z : ◌≡◌ {A = ℕ} 0 1 = cc in absurd (omega arith);
  as_solve = λ g r l. absurd (none g (kept_whole s g r).0);
  parts = parts;
}

pub without_few : (s : List ℕ) (w : ℕ) (t : List ℕ) → w < length s + told s → WithoutPost s w t (Err Few)
without_few s w t h = record { says = tt; few = (λ x. refl, λ e. h) }

pub without_no_game : (s : List ℕ) (w : ℕ) (t : List ℕ) → length s + told s ≤ w → ((g : Game) → ReadsEnds s g → ⊥) → WithoutPost s w t (Err NoGame)
without_no_game s w t room none = record { says = none; few = (λ x. absurd (omega arith), λ e. let z : ◌≡◌ {A = ℕ} 0 1 = cc in absurd (omega arith)) }

-- the answer for the made words m is one for the words s
module _ (s t m : List ℕ) (len : ℕ) (mended : Mended s t len) (is : m ≡ take len t) where
  game : Game
  game = mended.game

  words : m ≡ length game ∷ row (made game)
  unfolding game
  words = is ∙ mended.made_is

  -- a game that the made words are is what is made of a game that the words are
  back : (h : Game) → Reads m h → h ≡ made game
  back h r = rows h (made game) (let e = r.is in let d = words in cc)

  reads : (h : Game) → Reads m h → ReadsEnds s game
  unfolding game
  reads h r = reads_made s m game mended.is mended.light (subst (λ (k : Game). Reads m k) (back h r) r)

  same : (g : Game) → ReadsEnds s g → g ≡ game
  unfolding game
  same g r = rows g game (let e = r.is in let d = mended.is in cc)

  forth : (g : Game) → ReadsEnds s g → Reads m (made g)
  forth g r = let e = same g r in subst (λ (l : List ℕ). Reads l (made g)) (ap (λ (k : Game). length k ∷ row (made k)) e ∙ sym words) (made_reads s g r)

  size : (h : Game) → Reads m h → length h ≡ length game
  size h r = ap length (back h r) ∙ length_made 0 game

  pub without_game : (g : Game) × Reads m g → (w : ℕ) → length s + told s ≤ w → WithoutPost s w t (Ok len)
  unfolding game
  without_game (h, r) w room = record {
    says = (game, reads h r, mended.within, sym is ∙ words, subst (λ (l : List ℕ). Reads l (made game)) is (subst (λ (k : Game). Reads m k) (back h r) r));
    few = (λ x. absurd (omega arith), λ e. let z : ◌≡◌ {A = ℕ} 0 1 = cc in absurd (omega arith));
  }

  pub without_none : ((g : Game) → Reads m g → ⊥) → (g : Game) → ReadsEnds s g → ⊥
  without_none none g r = none (made g) (forth g r)

  module _ (o o' : List ℕ) where
    says : (r : Result (Unit {0}) Refusal) → SolvedSays m o o' r → EndsSays s o o' r
    says (Ok u) (h, r, room, two, even, odd, behind) =
        let e = size h r in
        let wins : (w : ℕ) → w < 2 → WinsFrom h w (goes o') (λ n. (n < length h) × (side o' n ≡ w)) → _ = λ w l x. from_made game w (goes o') (side o') l (subst (λ (k : Game). WinsFrom k w (goes o') (λ n. (n < length k) × (side o' n ≡ w))) (back h r) x) in
        (game, reads h r, omega arith, λ n l. two n (omega arith), wins 0 (omega arith) even, wins 1 (omega arith) odd, subst (λ (k : ℕ). drop (2 * k) o' ≡ drop (2 * k) o) e behind)
    says (Err OutFull) (h, r, short, kept) = let e = size h r in (game, reads h r, omega arith, kept)
    says (Err NoGame) (none, kept) = (λ g r. none (made g) (forth g r), kept)
    says (Err Few) kept = kept
    says (Err NoPlace) none = none

    pub ends_post : (w v : ℕ) (r : Result (Unit {0}) Refusal) → needed s ≤ w → 65536 + 4 * length m ≤ v → SolvedPost m v o o' r → EndsPost s w o o' r
    ends_post w v r enough room p = record {
      says = says r p.says;
      few = (λ x. absurd (omega arith), λ e. absurd (omega (arith, p.few.1 e)));
      only = λ e g u plan won n reads l wins h x.
          p.only e (made g) u plan won n (forth g reads) l (wins_made g u plan _ l (side_fits reads) wins) (omega (arith, length_made 0 g)) x;
      as_solve = λ g reads l. alike (whole g reads);
      parts = parts;
    }
      where
        whole : (g : Game) → Reads s g → m ≡ s
        whole g reads =
            let k = kept_whole s g reads in
            let e = same g k.0 in
            words ∙ ap (λ (h : Game). length h ∷ row (made h)) (sym e) ∙ ap (λ (h : Game). length g ∷ row h) k.1 ∙ sym reads.is

        alike : m ≡ s → SolvedPost s w o o' r
        alike e =
            let q : SolvedPost s v o o' r = subst (λ (l : List ℕ). SolvedPost l v o o' r) e p in
            let l : length m ≡ length s = ap length e in
            record { says = q.says; parts = q.parts; few = (λ x. absurd (omega arith), λ f. absurd (omega (arith, q.few.1 f))); only = q.only; further = q.further }
