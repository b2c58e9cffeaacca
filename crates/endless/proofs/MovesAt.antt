-- The moves of a place, by their index in its list.
use Rattle.std.proofs.Common.{◌≡◌, ℕ, ◌<◌, false, List, length, get_or, sym, ap, ◌∙◌, subst}
use Rattle.std.proofs.lemmas.Bool.{both_ways}
use Rattle.endless.specs.Games.{Game, Reads, Among, May}
use Rattle.endless.specs.Bits.{members}
use Rattle.endless.specs.Graph.{moves}
use Rattle.endless.specs.Sets.{In}
use Rattle.endless.proofs.Tests.{T_true}
use Rattle.endless.proofs.Places.{to_place}
use Rattle.endless.proofs.Among.{among_at, at_among}

-- what stands at an index of the list of moves is a move
pub move_at : (g : Game) (n : ℕ) (l : List ℕ) → l ≡ moves g n → (k : ℕ) → k < length l → May g n (get_or l k 0)
move_at g n l e k h = subst (λ (x : List ℕ). Among (get_or l k 0) x) e (at_among l k h)

-- and so leads to a place
pub move_inside : {s : List ℕ} {g : Game} → Reads s g → (n : ℕ) (l : List ℕ) → l ≡ moves g n → (k : ℕ) → k < length l → get_or l k 0 < length g
move_inside {s} {g} r n l e k h = to_place r n (get_or l k 0) (move_at g n l e k h)

-- where no index has one into a set, there is none
pub none_into : (g : Game) (n : ℕ) (left l : List ℕ) → l ≡ moves g n → ((k : ℕ) → k < length l → members left (get_or l k 0) ≡ false) → (m : ℕ) → May g n m → In (members left) m → ⊥
none_into g n left l e none m may x =
    let t = among_at m l (subst (λ (y : List ℕ). Among m y) (sym e) may) in
    both_ways (members left m) (sym (ap (members left) t.2) ∙ none t.0 t.1) (T_true _ x)
