-- The theorems about games, as types, and how an answer tells sides and moves.
use Rattle.std.specs.Prelude.{◌≡◌, ℕ, ◌+◌, ◌*◌, ◌<◌, ◌≤◌, Bool, T, ◌↔◌, List, [], ◌∷◌, length, ◌≢◌}
use Rattle.endless.specs.Games.{nth, opt, Game, Reads, whose, weight, May, Play, Plays, ByPlan, Heaviest, Wins, other}

-- a plan wins for a side from some places: it may be gone by, it stays where the side wins, and the other side wins no play by it
pub record WinsFrom (g : Game) (w : ℕ) (plan : ℕ → ℕ) (won : ℕ → Type 0) : Type 0 where
  pub may : (n : ℕ) → won n → whose g n ≡ w → May g n (plan n) × won (plan n)
  pub held : (n m : ℕ) → won n → (whose g n ≢ w) → May g n m → won m
  pub not_lost : (f : Play) → won (f 0) → Plays g f → ByPlan g w plan f → Wins g (other w) f → ⊥

-- words are at most one game
abbrev pub OneGame : Type 0
OneGame = (s : List ℕ) (g h : Game) → Reads s g → Reads s h → g ≡ h

-- of one play not both sides win
abbrev pub NotBoth : Type 0
NotBoth = (g : Game) (f : Play) → Wins g 0 f → Wins g 1 f → ⊥

-- two plans, one for each side, from one place: the play by both is won by neither against the plan that wins; so a place isn't won by both
abbrev pub OneWins : Type 0
OneWins = (s : List ℕ) (g : Game) (a b : ℕ → ℕ) (u v : ℕ → Bool) (n : ℕ) → Reads s g → WinsFrom g 0 a (λ m. T (u m)) → WinsFrom g 1 b (λ m. T (v m)) → T (u n) → T (v n) → ⊥

-- a round: places that follow one another by moves, a side's own moves by its plan, from the first to the place come to behind the last
pub data Round (g : Game) (w : ℕ) (plan : ℕ → ℕ) : ℕ → List ℕ → ℕ → Type 0 where
  last : {n m : ℕ} → May g n m → (whose g n ≡ w → m ≡ plan n) → Round g w plan n (n ∷ []) m
  then1 : {n m k : ℕ} {ns : List ℕ} → May g n m → (whose g n ≡ w → m ≡ plan n) → Round g w plan m ns k → Round g w plan n (n ∷ ns) k

abbrev pub heaviest : Game → List ℕ → ℕ
heaviest g [] = 0
heaviest g (n ∷ ns) = Prim.Native.Nat.max (weight g n) (heaviest g ns)

-- by a plan that wins, every round that it and any moves make has its own kind of weight as the heaviest
abbrev pub RoundsAreWon : Type 0
RoundsAreWon = (s : List ℕ) (g : Game) (w : ℕ) (plan : ℕ → ℕ) (won : ℕ → Bool) (n : ℕ) (ns : List ℕ) → Reads s g → w < 2 → WinsFrom g w plan (λ m. T (won m)) → T (won n) → Round g w plan n ns n → Prim.Native.Nat.◌%◌ (heaviest g ns) 2 ≡ w

-- and a plan of which that's so wins
abbrev pub RoundsWin : Type 0
RoundsWin = (s : List ℕ) (g : Game) (w : ℕ) (plan : ℕ → ℕ) (won : ℕ → Bool) → Reads s g → w < 2 → ((n : ℕ) → T (won n) → whose g n ≡ w → May g n (plan n) × T (won (plan n))) → ((n m : ℕ) → T (won n) → (whose g n ≢ w) → May g n m → T (won m)) →
    ((n : ℕ) (ns : List ℕ) → T (won n) → Round g w plan n ns n → Prim.Native.Nat.◌%◌ (heaviest g ns) 2 ≡ w) → WinsFrom g w plan (λ m. T (won m))

-- each place is won by one side, with one plan for all its places
abbrev pub EachIsWon : Type 0
EachIsWon = (s : List ℕ) (g : Game) → Reads s g → (sides : ℕ → ℕ) × (a : ℕ → ℕ) × (b : ℕ → ℕ) × ((n : ℕ) → sides n < 2) × WinsFrom g 0 a (λ n. (n < length g) × (sides n ≡ 0)) × WinsFrom g 1 b (λ n. (n < length g) × (sides n ≡ 1))

-- and there is no other answer: whatever plan wins for a side, from wherever, wins only places that an answer gives to that side
abbrev pub OnlyAnswer : Type 0
OnlyAnswer = (s : List ℕ) (g : Game) (sides a b : ℕ → ℕ) (w : ℕ) (plan : ℕ → ℕ) (won : ℕ → Bool) (n : ℕ) → Reads s g → ((m : ℕ) → m < length g → sides m < 2) → WinsFrom g 0 a (λ m. (m < length g) × (sides m ≡ 0)) → WinsFrom g 1 b (λ m. (m < length g) × (sides m ≡ 1)) →
    w < 2 → WinsFrom g w plan (λ m. T (won m)) → n < length g → T (won n) → sides n ≡ w

-- the heaviest, as far as that can be said of a play of which no rule is known: from some moment on nothing heavier comes, and at no moment has it come for the last time
pub record WeaklyHeaviest (g : Game) (f : Play) (k : ℕ) : Type 0 where
  pub from : ℕ
  pub none_heavier : (i : ℕ) → from ≤ i → weight g (f i) ≤ k
  pub never_last : (i : ℕ) → ((j : ℕ) → i ≤ j → weight g (f j) ≢ k) → ⊥

-- of no play can it be denied that some weight is the heaviest
abbrev pub SomeHeaviest : Type 0
SomeHeaviest = (s : List ℕ) (g : Game) (f : Play) → Reads s g → Plays g f → ((k : ℕ) → WeaklyHeaviest g f k → ⊥) → ⊥

-- a search that cannot fail ends; with that, the heaviest of `Wins` itself
abbrev pub SearchesEnd : Type 0
SearchesEnd = (P : ℕ → Bool) → (((n : ℕ) → T (P n) → ⊥) → ⊥) → (n : ℕ) × T (P n)

abbrev pub SomeHeaviestFound : Type 0
SomeHeaviestFound = SearchesEnd → (s : List ℕ) (g : Game) (f : Play) → Reads s g → Plays g f → ((k : ℕ) → Heaviest g f k → ⊥) → ⊥

-- the same with no hypothesis, over the heaviest of `Wins` itself, which names a later moment for each
abbrev pub SomeHeaviestNamed : Type 0
SomeHeaviestNamed = (s : List ℕ) (g : Game) (f : Play) → Reads s g → Plays g f → ((k : ℕ) → Heaviest g f k → ⊥) → ⊥

-- the double-negation shift for tests: what at no moment has come for the last time cannot be denied to come, by a moment that is named, after every moment
abbrev pub Shifts : Type 0
Shifts = (P : ℕ → Bool) → ((i : ℕ) → ((j : ℕ) → i ≤ j → T (P j) → ⊥) → ⊥) → (((i : ℕ) → (j : ℕ) × (i ≤ j) × T (P j)) → ⊥) → ⊥

-- the one is exactly as strong as the other
abbrev pub NamedAsShift : Type 0
NamedAsShift = SomeHeaviestNamed ↔ Shifts

-- so what is not lost is won: in every play by a plan that wins the heaviest is of its side's kind
abbrev pub PlanWins : Type 0
PlanWins = (s : List ℕ) (g : Game) (w : ℕ) (plan : ℕ → ℕ) (won : ℕ → Bool) (f : Play) (k : ℕ) → Reads s g → w < 2 → WinsFrom g w plan (λ m. T (won m)) → T (won (f 0)) → Plays g f → ByPlan g w plan f → WeaklyHeaviest g f k → Prim.Native.Nat.◌%◌ k 2 ≡ w

-- a plan that wins is not let off by there being no play: against every reply there is one play by both, and the side with the plan wins it
abbrev pub WinnerWins : Type 0
WinnerWins = (s : List ℕ) (g : Game) (w : ℕ) (plan reply : ℕ → ℕ) (won : ℕ → Bool) (n : ℕ) → Reads s g → w < 2 → WinsFrom g w plan (λ m. T (won m)) → ((m : ℕ) → m < length g → whose g m ≡ other w → May g m (reply m)) → n < length g → T (won n) →
    (f : Play) × (f 0 ≡ n) × Plays g f × ByPlan g w plan f × ByPlan g (other w) reply f × Wins g w f

-- an answer as words: for each place who wins it, and where the one whose move it is goes, by the winner's plan, if it's theirs
abbrev pub side : List ℕ → ℕ → ℕ
side o n = opt (nth o (2 * n)) 2 (λ x. x)

abbrev pub goes : List ℕ → ℕ → ℕ
goes o n = opt (nth o (2 * n + 1)) 0 (λ x. x)
