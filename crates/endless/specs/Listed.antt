-- The members of a set as a list, the least first, and what of them an iterator has left.
use Rattle.std.specs.Prelude.{ℕ, zero, suc, ◌+◌, ◌-◌, ◌*◌, ◌^◌, ◌≤◌, Bool, cond, List, [], ◌∷◌, length}
use Rattle.endless.specs.Bits.{members}
use Rattle.endless.specs.declared.bits.Members.{Members}

-- those of n places, from i on, that are in a set
unfoldable pub listed : (ℕ → Bool) → ℕ → ℕ → List ℕ
listed f i zero = []
listed f i (suc n) = cond (f i) (i ∷ listed f (suc i) n) (listed f (suc i) n)

-- the members of a set of whose words the first begins with place i
unfoldable pub listed_from : ℕ → List ℕ → List ℕ
listed_from i l = listed (λ n. members l (n - i)) i (32 * length l)

-- those that are left: of the word that is gone through, and of the words behind it
abbrev pub members_left : Members → List ℕ
members_left s = listed_from s.at (s.word ∷ s.words.now)

-- the places of these words are numbers of 32 bits
abbrev pub Numbered : Members → Type 0
Numbered s = s.at + 32 * (1 + length s.words.now) ≤ 2 ^ 32
