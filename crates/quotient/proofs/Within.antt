-- The moves of a place, and the parts that they lead into, have room; what a set of parts says of two places.
use Rattle.std.proofs.Common.{◌≡◌, ℕ, ◌*◌, ◌<◌, Bool, true, false, ◌⊎◌, List, length, get_or, sym, refl, subst, inl, inr, arith}
use Rattle.endless.specs.Games.{Game, Among}
use Rattle.endless.specs.Sets.{In}
use Rattle.endless.specs.Bits.{members}
use Rattle.endless.specs.Graph.{moves}
use Rattle.endless.specs.View.{words_of}
use Rattle.endless.proofs.Among.{at_among}
use Rattle.endless.proofs.Places.{to_place, ok_size}
use Rattle.quotient.specs.Gathering.{Into, Gathered, Nothing}
use Rattle.quotient.specs.Refining.{part, InParts, Leads}

module _ {g : Game} {parts : List ℕ} {words : ℕ} (parted : InParts g parts words) (n : ℕ) {ms : List ℕ} (ms-are : ms ≡ moves g n) where
  pub move_below : (k : ℕ) → k < length ms → get_or ms k 0 < length g
  move_below k h = to_place parted.playable n (get_or ms k 0) (subst (Among (get_or ms k 0)) ms-are (at_among ms k h))

  pub move_place : (k : ℕ) → k < length ms → get_or ms k 0 < length parts
  move_place k h = omega (arith, move_below k h, parted.long)

  pub part_below : (k : ℕ) → k < length ms → part parts (get_or ms k 0) < length g
  part_below k h = parted.below (get_or ms k 0) (move_below k h)

  pub part_small : (k : ℕ) → k < length ms → part parts (get_or ms k 0) < 16384
  part_small k h = omega (arith, part_below k h, (ok_size (words_of g) g parted.playable).1)

  pub part_inside : (k : ℕ) → k < length ms → part parts (get_or ms k 0) < 32 * words
  part_inside k h = omega (arith, part_below k h, parted.room)

-- the set has the parts that m may move into, and so tells whether all are there that n may move into
module _ (g : Game) {parts set set' : List ℕ} (n m : ℕ) {ns ms : List ℕ} (ns-are : ns ≡ moves g n) (ms-are : ms ≡ moves g m) (empty : Nothing set) {count : ℕ} (came : Gathered ms parts set set' count) where
  pub within_leads : ((q : ℕ) → Into ns parts q → In (members set') q) → Leads g parts n m
  within_leads all q x = go (came.which q (all q (subst (λ (l : List ℕ). Into l parts q) (sym ns-are) x)))
    where
      go : In (members set) q ⊎ Into ms parts q → Into (moves g m) parts q
      go (inl y) = absurd (empty q y)
      go (inr y) = subst (λ (l : List ℕ). Into l parts q) ms-are y

  pub leads_within : (b : Bool) → (b ≡ false → (q : ℕ) × Into ns parts q × (In (members set') q → ⊥)) → Leads g parts n m → b ≡ true
  leads_within true out leads = refl
  leads_within false out leads =
      let t = out refl in
      absurd (t.2 (came.came t.0 (subst (λ (l : List ℕ). Into l parts t.0) (sym ms-are) (leads t.0 (subst (λ (l : List ℕ). Into l parts t.0) ns-are t.1)))))
