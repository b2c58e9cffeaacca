-- What `solve` promises, for each of its answers.
use Rattle.std.proofs.Common.{◌≡◌, ℕ, ◌+◌, ◌-◌, ◌*◌, ◌/◌, ◌%◌, ◌<◌, ◌≤◌, ◌⊎◌, Ok, Err, List, length, get_or, drop, sym, refl, ap, ◌∙◌, subst, inl, inr, arith}
use Rattle.std.proofs.lemmas.List.{ext_get_or, get_or-drop, length-drop}
use Rattle.std.proofs.lemmas.Bool.{cases_eq}
use Rattle.endless.specs.declared.refusal.Refusal.{Refusal}
use Rattle.endless.specs.declared.refusal.Refusal.TheVariants.{Few, NoGame, NoPlace, OutFull}
use Rattle.endless.specs.Games.{Game, Reads}
use Rattle.endless.specs.Says.{side, goes}
use Rattle.endless.specs.Sets.{whole}
use Rattle.endless.specs.Subgames.{Solves}
use Rattle.endless.specs.Pulling.{Unchanged}
use Rattle.endless.specs.Accepting.{Accepts}
use Rattle.endless.specs.Promises.{SolvedPost}
use Rattle.endless.proofs.Sets.{whole_in}
use Rattle.endless.proofs.Steps.{solves_wins}
use Rattle.endless.proofs.Only.{only_answer}
use Rattle.endless.proofs.Unique.{one_game}
use Rattle.endless.proofs.Theorems.{parts, further}

-- the words cannot be worked on, or the answer has no room
pub refused_post : (s : List ℕ) (w : ℕ) (o : List ℕ) (refusal : Refusal) → Accepts s w (Err refusal) → SolvedPost s w o o (Err refusal)
refused_post s w o Few h = record { says = refl; parts = parts; few = (λ x. refl, λ e. h); only = λ e. cc; further = further }
refused_post s w o NoGame h = record { says = (h.1, refl); parts = parts; few = (λ x. absurd (omega (arith, h.0)), λ e. cc); only = λ e. cc; further = further }
refused_post s w o NoPlace h = absurd h
refused_post s w o OutFull h = absurd h

pub out_full_post : (s : List ℕ) (w : ℕ) (o : List ℕ) (g : Game) → 65536 + 4 * length s ≤ w → Reads s g → length o < 2 * length g → SolvedPost s w o o (Err OutFull)
out_full_post s w o g h r short = record { says = (g, r, short, refl); parts = parts; few = (λ x. absurd (omega arith), λ e. cc); only = λ e. cc; further = further }

-- what is unchanged from a place on is unchanged behind the words of the places before it
pub behind_same : (o o' : List ℕ) (k : ℕ) → length o' ≡ length o → ((n : ℕ) → k ≤ n → Unchanged o o' n) → drop (2 * k) o' ≡ drop (2 * k) o
behind_same o o' k long same = ext_get_or 0 (drop (2 * k) o') (drop (2 * k) o) (length-drop (2 * k) o' ∙ ap (λ (n : ℕ). n - 2 * k) long ∙ sym (length-drop (2 * k) o))
    (λ i h. get_or-drop (2 * k) o' i 0 ∙ word (2 * k + i) (omega arith) (cases_eq ((2 * k + i) % 2) 0) ∙ sym (get_or-drop (2 * k) o i 0))
  where
    word : (j : ℕ) → 2 * k ≤ j → (j % 2 ≡ 0) ⊎ (j % 2 ≡ 0 → ⊥) → get_or o' j 0 ≡ get_or o j 0
    word j h (inl e) = let d : 2 * (j / 2) ≡ j = omega arith in subst (λ (m : ℕ). get_or o' m 0 ≡ get_or o m 0) d (same (j / 2) (omega arith)).0
    word j h (inr e) = let d : 2 * (j / 2) + 1 ≡ j = omega arith in subst (λ (m : ℕ). get_or o' m 0 ≡ get_or o m 0) d (same (j / 2) (omega arith)).1

pub done_post : (s : List ℕ) (w : ℕ) (o o' : List ℕ) (g : Game) → 65536 + 4 * length s ≤ w → Reads s g → 2 * length g ≤ length o → length o' ≡ length o → ((n : ℕ) → length g ≤ n → Unchanged o o' n) → Solves g (whole g) (side o') (goes o') → SolvedPost s w o o' (Ok tt)
done_post s w o o' g h r room long frame solved = record {
  says = (g, r, room, two g r, solves_wins r solved 0 (omega arith), solves_wins r solved 1 (omega arith), behind_same o o' (length g) long frame);
  parts = parts;
  few = (λ x. absurd (omega arith), λ e. cc);
  only = λ e g v plan won n r l wins. only_answer s g (side o') (goes o') (goes o') v plan won n r (two g r) (solves_wins r (solves g r) 0 (omega arith)) (solves_wins r (solves g r) 1 (omega arith)) l wins;
  further = further;
}
  where
    -- whatever game the words read as, it is this one
    solves : (h : Game) → Reads s h → Solves h (whole h) (side o') (goes o')
    solves h q = subst (λ (g : Game). Solves g (whole g) (side o') (goes o')) (one_game s g h r q) solved

    two : (g : Game) → Reads s g → (n : ℕ) → n < length g → side o' n < 2
    two g r n l = (solves g r).one_of_two n (whole_in g n l)
