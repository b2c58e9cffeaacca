-- The answer of the smaller game, carried back, is one of the whole.
use Rattle.std.proofs.Common.{◌≡◌, ℕ, ◌+◌, ◌-◌, ◌*◌, ◌<◌, ◌≤◌, Bool, T, ◌⊎◌, Ok, Err, Result, List, length, get_or, take, set, sym, refl, ap, ◌∙◌, subst, inl, inr, arith}
use Rattle.std.proofs.lemmas.Bool.{cases_eq}
use Rattle.std.proofs.lemmas.List.{length-set, length-take-le}
use Rattle.endless.specs.declared.refusal.Refusal.{Refusal}
use Rattle.endless.specs.declared.refusal.Refusal.TheVariants.{Few, NoGame, NoPlace, OutFull}
use Rattle.endless.specs.Games.{Game, Reads, Among, May}
use Rattle.endless.specs.Says.{WinsFrom, side, goes}
use Rattle.endless.specs.Graph.{moves}
use Rattle.endless.specs.View.{words_of}
use Rattle.endless.specs.Pulling.{Unchanged}
use Rattle.endless.specs.Promises.{SolvedSays, SolvedPost}
use Rattle.endless.proofs.Among.{at_among}
use Rattle.endless.proofs.Unique.{one_game}
use Rattle.endless.proofs.Theorems.{further}
use Rattle.endless.proofs.Working.{goes_at, side_at, put_goes, put_side, put_unchanged, unchanged_goes, same_side}
use Rattle.endless.proofs.Solving.{behind_same}
use Rattle.quotient.specs.Alike.{Merged}
use Rattle.quotient.specs.Gathering.{Into}
use Rattle.quotient.specs.Says.{CarriedBack}
use Rattle.quotient.specs.Carrying.{Carries, SolvedMergedPost}
use Rattle.quotient.specs.Promises.{Merges, MergedSays, MergedPost}
use Rattle.quotient.proofs.Sames.{among_into}
use Rattle.quotient.proofs.Carrying.{theorems, wins_back, given, given_is, wins_as}
use Rattle.quotient.proofs.Merging.{words_long}

-- ---- one place more

abbrev pub Moves : List ℕ → List ℕ → ℕ → ℕ → Type 0
Moves ms to part m = Into ms to part → (k : ℕ) × (k < length ms) × (get_or ms k 0 ≡ m) × (get_or to m 0 ≡ part)

module _ {g : Game} {to answer before : List ℕ} {i : ℕ} {out : List ℕ} (so_far : Carries g to answer before i out) (long : 2 * i + 1 < length out) (wide : 2 * get_or to i 0 + 1 < length answer)
    (ms : List ℕ) (ms-are : ms ≡ moves g i) (m : ℕ) (moving : Moves ms to (get_or answer (2 * get_or to i 0 + 1) 0) m) where
  abbrev p : ℕ
  p = get_or to i 0

  abbrev out' : List ℕ
  out' = set (set out (2 * i) (get_or answer (2 * p) 0)) (2 * i + 1) m

  else_where : (n : ℕ) → (n ≡ i → ⊥) → Unchanged out out' n
  else_where n d = put_unchanged out i (get_or answer (2 * p) 0) m long n d

  goes_here : goes out' i ≡ m
  goes_here = put_goes out i (get_or answer (2 * p) 0) m long

  pub carries_more : Carries g to answer before (i + 1) out'
  carries_more = record {
    sides = λ n h. sides n h (cases_eq n i);
    plan = λ n h. plan n h (cases_eq n i);
    behind = λ n h. let a = so_far.behind n (omega arith) in let b = else_where n (λ e. omega arith) in (b.0 ∙ a.0, b.1 ∙ a.1);
  }
    where
      sides : (n : ℕ) → n < i + 1 → (n ≡ i) ⊎ (n ≡ i → ⊥) → side out' n ≡ side answer (get_or to n 0)
      sides n h (inl e) = subst (λ (k : ℕ). side out' k ≡ side answer (get_or to k 0)) (sym e) (put_side out i (get_or answer (2 * p) 0) m long ∙ sym (side_at answer p (omega arith)))
      sides n h (inr d) = same_side out out' n (length-set (set out (2 * i) (get_or answer (2 * p) 0)) (2 * i + 1) m ∙ length-set out (2 * i) (get_or answer (2 * p) 0)) (else_where n d) ∙ so_far.sides n (omega arith)

      at_here : Into (moves g i) to (goes answer p) → May g i (goes out' i) × (get_or to (goes out' i) 0 ≡ goes answer p)
      at_here x =
          let e : goes answer p ≡ get_or answer (2 * p + 1) 0 = goes_at answer p in
          let t = moving (subst (λ (l : List ℕ). Into l to (get_or answer (2 * p + 1) 0)) (sym ms-are) (subst (Into (moves g i) to) e x)) in
          let a : Among m ms = subst (λ (k : ℕ). Among k ms) t.2 (at_among ms t.0 t.1) in
          (subst (May g i) (sym goes_here) (subst (Among m) ms-are a), ap (λ (k : ℕ). get_or to k 0) goes_here ∙ t.3 ∙ sym e)

      plan : (n : ℕ) → n < i + 1 → (n ≡ i) ⊎ (n ≡ i → ⊥) → Into (moves g n) to (goes answer (get_or to n 0)) → May g n (goes out' n) × (get_or to (goes out' n) 0 ≡ goes answer (get_or to n 0))
      plan n h (inl e) x = subst (λ (k : ℕ). May g k (goes out' k) × (get_or to (goes out' k) 0 ≡ goes answer (get_or to k 0))) (sym e) (at_here (subst (λ (k : ℕ). Into (moves g k) to (goes answer (get_or to k 0))) e x))
      plan n h (inr d) x = subst (λ (k : ℕ). May g n k × (get_or to k 0 ≡ goes answer (get_or to n 0))) (sym (unchanged_goes out out' n (else_where n d))) (so_far.plan n (omega arith) x)

-- ---- all

module _ {s : List ℕ} {g h : Game} {to answer before out : List ℕ} (reads : Reads s g) (merged : Merged g h (λ n. get_or to n 0)) (carries : Carries g to answer before (length g) out) where
  carried_back : (v : ℕ) → WinsFrom h v (goes answer) (λ p. (p < length h) × (side answer p ≡ v)) → CarriedBack g (λ n. get_or to n 0) v (goes answer) (given h (side answer) v) (goes out)
  carried_back v wins n l x e =
      let t = merged.back n (goes answer (get_or to n 0)) l (wins.may (get_or to n 0) (given_is h (side answer) v (get_or to n 0) x) (merged.owns n l ∙ e)).0 in
      carries.plan n l (subst (Into (moves g n) to) t.2 (among_into to (moves g n) t.0 t.1))

  pub answer_wins : (v : ℕ) → WinsFrom h v (goes answer) (λ p. (p < length h) × (side answer p ≡ v)) → WinsFrom g v (goes out) (λ n. (n < length g) × (side out n ≡ v))
  answer_wins v wins =
      wins_as (λ n x. (x.0, carries.sides n x.0 ∙ x.1)) (λ n x. (x.0, sym (carries.sides n x.0) ∙ x.1))
      (wins_back reads merged (side answer) v (goes answer) (goes out) wins (carried_back v wins))

  pub answer_sides : ((p : ℕ) → p < length h → side answer p < 2) → (n : ℕ) → n < length g → side out n < 2
  answer_sides two n l = omega (arith, carries.sides n l, two (get_or to n 0) (merged.inside n l))

pub done_post : {s : List ℕ} {g : Game} {lent : ℕ} {to₀ small₀ to small : List ℕ} {len w : ℕ} {a₀ answer before out : List ℕ} → 65536 + 6 * length s ≤ lent → Reads s g → 2 * length g ≤ length before → length out ≡ length before →
    Merges g to₀ small₀ to small len → SolvedPost (take len small) w a₀ answer (Ok tt) → Carries g to answer before (length g) out → SolvedMergedPost s lent before out (Ok tt)
done_post {s} {g} {lent} {to₀} {small₀} {to} {small} {len} {w} {a₀} {answer} {before} {out} enough reads room long merges solved carries = record {
  says = (g, reads, room, two, wins 0 t.4, wins 1 t.5, behind_same before out (length g) long carries.behind);
  few = (λ x. absurd (omega arith), λ e. cc);
  only = λ e k v plan won n r l by. only k v plan won n r (one_game s k g r reads) l by;
  theorems = theorems;
}
  where
    t : SolvedSays (take len small) a₀ answer (Ok tt)
    t = solved.says

    same : t.0 ≡ merges.smaller
    same = one_game (take len small) t.0 merges.smaller t.1 merges.reads

    wins : (v : ℕ) → WinsFrom t.0 v (goes answer) (λ p. (p < length t.0) × (side answer p ≡ v)) → WinsFrom g v (goes out) (λ n. (n < length g) × (side out n ≡ v))
    wins v x = answer_wins reads merges.merged carries v (subst (λ (h : Game). WinsFrom h v (goes answer) (λ p. (p < length h) × (side answer p ≡ v))) same x)

    two : (n : ℕ) → n < length g → side out n < 2
    two = answer_sides reads merges.merged carries (subst (λ (h : Game). (p : ℕ) → p < length h → side answer p < 2) same t.3)

    only : (k : Game) (v : ℕ) (plan : ℕ → ℕ) (won : ℕ → Bool) (n : ℕ) → Reads s k → k ≡ g → v < 2 → WinsFrom k v plan (λ m. T (won m)) → n < length k → T (won n) → side out n ≡ v
    only k v plan won n r e l by = further.only_answer s k (side out) (goes out) (goes out) v plan won n r (subst (λ (x : Game). (m : ℕ) → m < length x → side out m < 2) (sym e) two)
        (subst (λ (x : Game). WinsFrom x 0 (goes out) (λ m. (m < length x) × (side out m ≡ 0))) (sym e) (wins 0 t.4)) (subst (λ (x : Game). WinsFrom x 1 (goes out) (λ m. (m < length x) × (side out m ≡ 1))) (sym e) (wins 1 t.5)) l by

-- ---- refusals

pub few_post : {s : List ℕ} {lent : ℕ} {o : List ℕ} → lent < 65536 + 6 * length s → SolvedMergedPost s lent o o (Err Few)
few_post h = record { says = refl; few = (λ x. refl, λ e. h); only = λ e. cc; theorems = theorems }

pub no_game_post : {s : List ℕ} {lent : ℕ} {o : List ℕ} → 65536 + 6 * length s ≤ lent → ((g : Game) → Reads s g → ⊥) → SolvedMergedPost s lent o o (Err NoGame)
no_game_post h none = record { says = (none, refl); few = (λ x. absurd (omega arith), λ e. cc); only = λ e. cc; theorems = theorems }

pub out_full_post : {s : List ℕ} {lent : ℕ} {o : List ℕ} {g : Game} → 65536 + 6 * length s ≤ lent → Reads s g → length o < 2 * length g → SolvedMergedPost s lent o o (Err OutFull)
out_full_post {g = g} h r short = record { says = (g, r, short, refl); few = (λ x. absurd (omega arith), λ e. cc); only = λ e. cc; theorems = theorems }

-- how many words a game has
pub game_long : {s : List ℕ} {g : Game} → Reads s g → 3 * length g < length s
game_long {s} {g} r = omega (arith, ap length r.is, words_long g)

-- the smaller game is always made, and always solved
pub always_merged : {s : List ℕ} {g : Game} {lent : ℕ} {to small to' small' : List ℕ} (refusal : Refusal) → Reads s g → 65536 + 4 * length s ≤ lent → length g ≤ length to → length s ≤ length small → MergedPost s lent to small to' small' (Err refusal) → ⊥
always_merged Few r h a b p = let z = p.few.1 refl in omega arith
always_merged {g = g} NoGame r h a b p = p.says.0 g r
always_merged NoPlace r h a b p = p.says
always_merged {s} {g} {to = to} {small = small} OutFull r h a b p = go p.says.2
  where
    same : p.says.0 ≡ g
    same = one_game s p.says.0 g p.says.1 r

    go : (length to < length p.says.0) ⊎ (length small < length s) → ⊥
    go (inl x) = omega (arith, ap length same)
    go (inr x) = omega arith

-- of the game that the words are
pub merges_of : {s : List ℕ} {g : Game} {to small to' small' : List ℕ} {len : ℕ} → Reads s g → MergedSays s to small to' small' (Ok len) → Merges g to small to' small' len
merges_of {s} {g} {to} {small} {to'} {small'} {len} r says = subst (λ (k : Game). Merges k to small to' small' len) (one_game s says.0 g says.1 r) says.4

pub always_solved : {t : List ℕ} {h : Game} {lent : ℕ} {o o' : List ℕ} (refusal : Refusal) → Reads t h → 65536 + 4 * length t ≤ lent → 2 * length h ≤ length o → SolvedPost t lent o o' (Err refusal) → ⊥
always_solved Few r h a p = let z = p.few.1 refl in omega arith
always_solved {h = h} NoGame r e a p = p.says.0 h r
always_solved NoPlace r h a p = p.says
always_solved {t} {h} OutFull r e a p = let same : p.says.0 ≡ h = one_game t p.says.0 h p.says.1 r in omega (arith, ap length same, p.says.2)

-- of the first words, as code cuts them
pub of_front : (small : List ℕ) {w : ℕ} {a a' : List ℕ} {r : Result (Unit {0}) Refusal} (len : ℕ) → SolvedPost (take (len - 0) small) w a a' r → SolvedPost (take len small) w a a' r
of_front small {w} {a} {a'} {r} len post = let z : len - 0 ≡ len = omega arith in subst (λ (k : ℕ). SolvedPost (take k small) w a a' r) z post

-- the smaller game's words are no more than the game's
pub front_long : {s : List ℕ} {g : Game} {to small to' small' : List ℕ} {len : ℕ} → Reads s g → Merges g to small to' small' len → length s ≤ length small' → length (take len small') ≤ length s
front_long {s} {g} {small' = small'} {len = len} r m h = let e : length s ≡ length (words_of g) = ap length r.is in omega (arith, m.within, length-take-le len small' (omega (arith, m.within)))
