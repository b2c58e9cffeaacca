-- The words of one place of the smaller game, written behind those before it.
use Rattle.std.proofs.Common.{◌≡◌, ℕ, ◌+◌, ◌<◌, ◌≤◌, ◌⊎◌, List, [], ◌∷◌, ◌++◌, length, get_or, take, set, sym, ap, ◌∙◌, subst, inl, inr, arith}
use Rattle.std.proofs.lemmas.List.{get_or-set_other, length-set, take_more_set, append_assoc, append-nil}
use Rattle.endless.specs.Games.{Game, whose, weight}
use Rattle.endless.specs.Graph.{moves}
use Rattle.endless.specs.Sets.{In}
use Rattle.endless.specs.Bits.{members}
use Rattle.quotient.specs.Gathering.{Into, Gathered, Nothing}
use Rattle.quotient.specs.Numbering.{Emptied, Put}
use Rattle.quotient.proofs.Members.{empty_size}

-- three words in front
abbrev pub three : List ℕ → ℕ → ℕ → ℕ → ℕ → List ℕ
three words at w k m = set (set (set words at w) (at + 1) k) (at + 2) m

put_three : (words : List ℕ) (at w k m : ℕ) → at + 2 < length words → take (at + 3) (three words at w k m) ≡ take at words ++ (w ∷ k ∷ m ∷ [])
put_three words at w k m room =
    let l1 = length-set words at w in
    let l2 = length-set (set words at w) (at + 1) k in
    let z3 : at + 3 ≡ (at + 2) + 1 = omega arith in
    let z2 : at + 2 ≡ (at + 1) + 1 = omega arith in
    let t3 : take (at + 3) (three words at w k m) ≡ take (at + 2) (set (set words at w) (at + 1) k) ++ m ∷ [] = ap (λ (n : ℕ). take n (three words at w k m)) z3 ∙ take_more_set (set (set words at w) (at + 1) k) (at + 2) m (omega arith) in
    let t2 : take (at + 2) (set (set words at w) (at + 1) k) ≡ take (at + 1) (set words at w) ++ k ∷ [] = ap (λ (n : ℕ). take n (set (set words at w) (at + 1) k)) z2 ∙ take_more_set (set words at w) (at + 1) k (omega arith) in
    let t1 : take (at + 1) (set words at w) ≡ take at words ++ w ∷ [] = take_more_set words at w (omega arith) in
    t3 ∙ ap (λ (l : List ℕ). l ++ m ∷ []) (t2 ∙ ap (λ (l : List ℕ). l ++ k ∷ []) t1 ∙ append_assoc (take at words) (w ∷ []) (k ∷ [])) ∙ append_assoc (take at words) (w ∷ k ∷ []) (m ∷ [])

pub three_long : (words : List ℕ) (at w k m : ℕ) → length (three words at w k m) ≡ length words
three_long words at w k m = length-set (set (set words at w) (at + 1) k) (at + 2) m ∙ length-set (set words at w) (at + 1) k ∙ length-set words at w

kept_three : (words : List ℕ) (at w k m j : ℕ) → at + 3 ≤ j → get_or (three words at w k m) j 0 ≡ get_or words j 0
kept_three words at w k m j h = get_or-set_other _ (at + 2) j m 0 (λ x. omega arith) ∙ get_or-set_other _ (at + 1) j k 0 (λ x. omega arith) ∙ get_or-set_other words at j w 0 (λ x. omega arith)

module _ (g : Game) (n at : ℕ) (words : List ℕ) {ms numbers set₀ set₁ set₂ words' : List ℕ} {w k count end : ℕ}
    (ms-are : ms ≡ moves g n) (empty : Nothing set₀) (came : Gathered ms numbers set₀ set₁ count) (out : Emptied set₁ (three words at w k count) (at + 3) set₂ words' end)
    (w-is : w ≡ whose g n) (k-is : k ≡ weight g n) (room : at + 2 < length words) where
  long : length out.written ≡ count
  long = omega (arith, out.many, came.many, empty_size set₀ empty)

  into : (q : ℕ) → In (members set₁) q → Into (moves g n) numbers q
  into q x = go (came.which q x)
    where
      go : In (members set₀) q ⊎ Into ms numbers q → Into (moves g n) numbers q
      go (inl y) = absurd (empty q y)
      go (inr y) = subst (λ (l : List ℕ). Into l numbers q) ms-are y

  pub put_place : Put g numbers n words at words' end
  put_place = record {
    place = record { whose = w; weight = k; moves = out.written };
    made_of = record {
      owns = w-is;
      weighs = k-is;
      came = λ q x. into q (out.were q x);
      are = λ q x. out.are q (came.came q (subst (λ (l : List ℕ). Into l numbers q) (sym ms-are) x));
      ascending = out.ascending;
    };
    put = out.put ∙ ap (λ (l : List ℕ). l ++ out.written) (put_three words at w k count room) ∙ append_assoc (take at words) (w ∷ k ∷ count ∷ []) out.written
        ∙ ap (λ (l : List ℕ). take at words ++ (w ∷ k ∷ count ∷ l)) (sym (append-nil out.written)) ∙ ap (λ (m : ℕ). take at words ++ (w ∷ k ∷ m ∷ (out.written ++ []))) (sym long);
    grows = omega (arith, out.end_is);
    few = omega (arith, out.end_is, came.many, empty_size set₀ empty, came.few, ap length ms-are);
    behind = λ j h. out.behind j h ∙ kept_three words at w k count j (omega (arith, out.end_is));
  }
