-- How many parts have their first place below a place.
use Rattle.std.proofs.Common.{◌≡◌, ℕ, zero, suc, ◌+◌, ◌-◌, ◌<◌, ◌≤◌, ◌⊎◌, List, length, get_or, set, sym, ap, ◌∙◌, inl, inr, arith}
use Rattle.std.proofs.lemmas.List.{get_or-set_same, get_or-set_other}
use Rattle.std.proofs.lemmas.Bool.{cases_eq, cases_lt, eq-eqb}
use Rattle.endless.specs.Games.{Game}
use Rattle.endless.proofs.CountLaws.{one_if, one_other, count_zero, count_more, count_more_yes, count_le}
use Rattle.quotient.specs.Refining.{part, Parted}
use Rattle.quotient.specs.Numbering.{leads, rank}

pub rank_none : (parts : List ℕ) → 0 ≡ rank parts 0
rank_none parts = sym (count_zero (leads parts))

pub rank_le : (parts : List ℕ) (n : ℕ) → rank parts n ≤ n
rank_le parts n = count_le (leads parts) n

-- past a first place there is one more
pub rank_lead : (parts : List ℕ) (n : ℕ) → part parts n ≡ n → rank parts (n + 1) ≡ rank parts n + 1
rank_lead parts n e = count_more_yes (leads parts) n (eq-eqb (part parts n) n e)

pub rank_else : (parts : List ℕ) (n : ℕ) → (part parts n ≡ n → ⊥) → rank parts (n + 1) ≡ rank parts n
rank_else parts n d = let a : one_if (leads parts n) ≡ 0 = one_other (part parts n) n d in omega (arith, count_more (leads parts) n)

rank_grows : (parts : List ℕ) (n k : ℕ) → rank parts n ≤ rank parts (n + k)
rank_grows parts n zero = let z : n + zero ≡ n = omega arith in omega (arith, ap (rank parts) z)
rank_grows parts n (suc k) =
    let z : n + suc k ≡ (n + k) + 1 = omega arith in
    omega (arith, ap (rank parts) z, count_more (leads parts) (n + k), rank_grows parts n k)

pub rank_more : (parts : List ℕ) (n m : ℕ) → n ≤ m → rank parts n ≤ rank parts m
rank_more parts n m h = let z : n + (m - n) ≡ m = omega arith in omega (arith, rank_grows parts n (m - n), ap (rank parts) z)

-- a first place has a smaller number than what comes behind
pub rank_less : (parts : List ℕ) (n m : ℕ) → part parts n ≡ n → n < m → rank parts n < rank parts m
rank_less parts n m e h = omega (arith, rank_lead parts n e, rank_more parts (n + 1) m (omega arith))

-- and first places of one number are one
pub rank_one : (parts : List ℕ) (n m : ℕ) → part parts n ≡ n → part parts m ≡ m → rank parts n ≡ rank parts m → n ≡ m
rank_one parts n m e d s = go (cases_lt n m) (cases_lt m n)
  where
    go : (n < m) ⊎ (m ≤ n) → (m < n) ⊎ (n ≤ m) → n ≡ m
    go (inl h) k = let z = rank_less parts n m e h in absurd (omega arith)
    go (inr h) (inl k) = let z = rank_less parts m n d k in absurd (omega arith)
    go (inr h) (inr k) = omega arith

-- each number below that of all parts is the number of a first place
pub ranked : (parts : List ℕ) (b p : ℕ) → p < rank parts b → (n : ℕ) × (n < b) × (part parts n ≡ n) × (rank parts n ≡ p)
ranked parts zero p h = absurd (omega (arith, rank_none parts))
ranked parts (suc b) p h = go (cases_eq (part parts b) b) (cases_lt p (rank parts b)) (ranked parts b p)
  where
    next : rank parts (suc b) ≡ rank parts (b + 1)
    next = let z : suc b ≡ b + 1 = omega arith in ap (rank parts) z

    go : (part parts b ≡ b) ⊎ (part parts b ≡ b → ⊥) → (p < rank parts b) ⊎ (rank parts b ≤ p) → (p < rank parts b → (n : ℕ) × (n < b) × (part parts n ≡ n) × (rank parts n ≡ p)) → (n : ℕ) × (n < suc b) × (part parts n ≡ n) × (rank parts n ≡ p)
    go e (inl x) rest = let t = rest x in (t.0, omega (arith, t.1), t.2, t.3)
    go (inl e) (inr x) rest = (b, omega arith, e, omega (arith, next, rank_lead parts b e))
    go (inr d) (inr x) rest = absurd (omega (arith, next, rank_else parts b d))

-- ---- one place numbered

module _ {g : Game} {parts : List ℕ} {words : ℕ} (parted : Parted g parts words) (numbers : List ℕ) {i : ℕ} (so_far : (n : ℕ) → n < i → get_or numbers n 0 ≡ rank parts (part parts n)) (here : i < length g) (room : length g ≤ length numbers) where
  -- all before it stay
  numbered_more : (x : ℕ) → x ≡ rank parts (part parts i) → (n : ℕ) → n < i + 1 → get_or (set numbers i x) n 0 ≡ rank parts (part parts n)
  numbered_more x is n h = go (cases_eq n i)
    where
      go : (n ≡ i) ⊎ (n ≡ i → ⊥) → get_or (set numbers i x) n 0 ≡ rank parts (part parts n)
      go (inl e) = ap (λ (k : ℕ). get_or (set numbers i x) k 0) e ∙ get_or-set_same numbers i x 0 (omega arith) ∙ is ∙ ap (λ (k : ℕ). rank parts (part parts k)) (sym e)
      go (inr d) = get_or-set_other numbers i n x 0 d ∙ so_far n (omega arith)

  pub behind_more : (before : List ℕ) (x : ℕ) → ((k : ℕ) → length g ≤ k → get_or numbers k 0 ≡ get_or before k 0) → (k : ℕ) → length g ≤ k → get_or (set numbers i x) k 0 ≡ get_or before k 0
  behind_more before x same k h = get_or-set_other numbers i k x 0 (λ e. omega arith) ∙ same k h

  pub numbered_lead : (many : ℕ) → many ≡ rank parts i → part parts i ≡ i → (n : ℕ) → n < i + 1 → get_or (set numbers i many) n 0 ≡ rank parts (part parts n)
  numbered_lead many is e = numbered_more many (is ∙ ap (rank parts) (sym e))

  pub numbered_else : (part parts i ≡ i → ⊥) → (n : ℕ) → n < i + 1 → get_or (set numbers i (get_or numbers (part parts i) 0)) n 0 ≡ rank parts (part parts n)
  numbered_else d =
      let low = parted.low i here in
      numbered_more (get_or numbers (part parts i) 0) (so_far (part parts i) (omega arith) ∙ ap (rank parts) (parted.lead i here))
