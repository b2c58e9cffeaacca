-- No place has a number yet: the first of them, and one more.
use Rattle.std.proofs.Common.{◌≡◌, ℕ, ◌+◌, ◌*◌, ◌<◌, ◌≤◌, ◌⊎◌, List, length, get_or, set, sym, ap, ◌∙◌, subst, inl, inr, arith}
use Rattle.std.proofs.lemmas.List.{get_or-set_same, get_or-set_other}
use Rattle.std.proofs.lemmas.Bool.{cases_eq}
use Rattle.endless.specs.Games.{Game, Reads, May}
use Rattle.endless.specs.Says.{goes}
use Rattle.endless.specs.Graph.{moves}
use Rattle.endless.proofs.Among.{at_among}
use Rattle.endless.proofs.Places.{some_moves}
use Rattle.endless.proofs.Working.{put_goes, put_unchanged, unchanged_goes}
use Rattle.distance.specs.Sooner.{never}
use Rattle.distance.specs.Spreading.{number}
use Rattle.distance.specs.Distances.{Cleared}

module _ {s : List ℕ} {g : Game} (reads : Reads s g) {place : ℕ} {before out awaited : List ℕ} (so_far : Cleared g place before out awaited) (here : place < length g)
    (room : 2 * length g ≤ length out) (long : length g ≤ length awaited) {ms : List ℕ} {many : ℕ} (ms-are : ms ≡ moves g place) (many_is : many ≡ length (moves g place)) where
  wide : 2 * place + 1 < length out
  wide = omega arith

  abbrev out' : List ℕ
  out' = set (set out (2 * place) never) (2 * place + 1) (get_or ms 0 0)

  pub cleared_more : Cleared g (place + 1) before out' (set awaited place many)
  cleared_more = record {
    numbers = λ n l. numbers n l (cases_eq n place);
    may = λ n l. may n l (cases_eq n place);
    counts = λ n l. counts n l (cases_eq n place);
    behind = λ n h. let a = so_far.behind n (omega arith) in let b = put_unchanged out place never (get_or ms 0 0) wide n (λ e. omega arith) in (b.0 ∙ a.0, b.1 ∙ a.1);
  }
    where
      numbers : (n : ℕ) → n < place + 1 → (n ≡ place) ⊎ (n ≡ place → ⊥) → number out' n ≡ never
      numbers n l (inl e) = ap (number out') e ∙ get_or-set_other (set out (2 * place) never) (2 * place + 1) (2 * place) (get_or ms 0 0) 0 (λ x. omega arith) ∙ get_or-set_same out (2 * place) never 0 (omega arith)
      numbers n l (inr d) = (put_unchanged out place never (get_or ms 0 0) wide n d).0 ∙ so_far.numbers n (omega arith)

      may : (n : ℕ) → n < place + 1 → (n ≡ place) ⊎ (n ≡ place → ⊥) → May g n (goes out' n)
      may n l (inl e) = subst (λ (k : ℕ). May g k (goes out' k)) (sym e) (subst (May g place) (sym (put_goes out place never (get_or ms 0 0) wide ∙ ap (λ (xs : List ℕ). get_or xs 0 0) ms-are)) (at_among (moves g place) 0 (some_moves reads place here)))
      may n l (inr d) = subst (May g n) (sym (unchanged_goes out out' n (put_unchanged out place never (get_or ms 0 0) wide n d))) (so_far.may n (omega arith))

      counts : (n : ℕ) → n < place + 1 → (n ≡ place) ⊎ (n ≡ place → ⊥) → get_or (set awaited place many) n 0 ≡ length (moves g n)
      counts n l (inl e) = ap (λ (k : ℕ). get_or (set awaited place many) k 0) e ∙ get_or-set_same awaited place many 0 (omega arith) ∙ many_is ∙ ap (λ (k : ℕ). length (moves g k)) (sym e)
      counts n l (inr d) = get_or-set_other awaited place n many 0 d ∙ so_far.counts n (omega arith)
