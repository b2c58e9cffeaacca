-- PGSolver's form: what stands in front of a text, node by node.
use Rattle.std.specs.Prelude.{ℕ, zero, suc, ◌+◌, ◌-◌, ◌*◌, Bool, cond, ◌||◌, List, [], ◌∷◌, ◌++◌, map, length, take, drop, position, Some, None, Ok, Err, Option, Result, ◌==◌, nat_lt}
use Rattle.std.specs.Char.{is_ascii_digit}
use Rattle.std.specs.List.{flat_map, prefix_len}
use Rattle.endless.specs.declared.side.Side.{Side}
use Rattle.endless.specs.declared.side.Side.TheVariants.{Even, Odd}
use Rattle.pgsolver.specs.declared.refusal.Fault.{Fault}
use Rattle.pgsolver.specs.declared.refusal.Fault.TheVariants.{Number, Large, Owner, NoSuccessor, Quote, End, TooManyNodes, TooManyMoves}
use Rattle.pgsolver.specs.declared.refusal.Slip.{Slip}
use Rattle.pgsolver.specs.declared.node.Head.{Head}

-- blanks, line ends and tabs separate
abbrev pub blank : ℕ → Bool
blank b = b == 32 || (b == 10 || (b == 13 || b == 9))

abbrev pub skip : List ℕ → List ℕ
skip bs = drop (prefix_len blank bs) bs

-- a fault, and how many bytes are left from there
abbrev pub slip : Fault → List ℕ → Slip
slip f bs = record { fault = f; left = length bs }

abbrev pub and_then : {A B : Type 0} → Result A Slip → (A → Result B Slip) → Result B Slip
and_then (Ok x) f = f x
and_then (Err y) f = Err y

-- what stands behind a word
abbrev pub starts : List ℕ → List ℕ → Option (List ℕ)
starts [] bs = Some bs
starts (c ∷ cs) [] = None
starts (c ∷ cs) (b ∷ bs) = cond (b == c) (starts cs bs) None

-- what stands behind a word that comes next
abbrev pub behind : List ℕ → List ℕ → Option (List ℕ)
behind w bs = starts w (skip bs)

-- a number below 2 ^ 32 in digits, and what is left behind it
abbrev pub digits : ℕ → List ℕ → Result (ℕ × List ℕ) Slip
digits n [] = Ok (n, [])
digits n (b ∷ bs) =
    cond (is_ascii_digit b) (cond (nat_lt (10 * n + (b - 48)) 4294967296) (digits (10 * n + (b - 48)) bs) (Err (slip Large (b ∷ bs)))) (Ok (n, b ∷ bs))

abbrev pub numeral : Fault → List ℕ → Result (ℕ × List ℕ) Slip
numeral f [] = Err (slip f [])
numeral f (b ∷ bs) = cond (is_ascii_digit b) (digits 0 (b ∷ bs)) (Err (slip f (b ∷ bs)))

abbrev pub number : Fault → List ℕ → Result (ℕ × List ℕ) Slip
number f bs = numeral f (skip bs)

-- an owner is 0 or 1
abbrev pub side_of : ℕ → Option Side
side_of zero = Some Even
side_of (suc zero) = Some Odd
side_of (suc (suc n)) = None

abbrev pub owner_on : List ℕ → Option Side → Result (Side × List ℕ) Slip
owner_on bs None = Err (slip Owner bs)
owner_on bs (Some w) = Ok (w, bs)

abbrev pub owner_of : ℕ × List ℕ → Result (Side × List ℕ) Slip
owner_of p = owner_on p.1 (side_of p.0)

abbrev pub owner : List ℕ → Result (Side × List ℕ) Slip
owner bs = and_then (number Number bs) owner_of

-- ID PRIORITY OWNER
abbrev pub head : List ℕ → Result (Head × List ℕ) Slip
head bs =
    and_then (number Number bs) (λ i. and_then (number Number i.1) (λ p. and_then (owner p.1) (λ o. Ok (record { id = i.0; priority = p.0; owner = o.0 }, o.1))))

-- SUCC,SUCC,.. : at least one, with those used before at most 64,000; acc are those read so far, and n more are looked at
abbrev pub goals_on : (List ℕ → Result (List ℕ × List ℕ) Slip) → List ℕ → List ℕ → Option (List ℕ) → Result (List ℕ × List ℕ) Slip
goals_on more acc rest None = Ok (acc, rest)
goals_on more acc rest (Some r) = more r

unfoldable pub goals_in : ℕ → ℕ → List ℕ → List ℕ → Result (List ℕ × List ℕ) Slip
goals_in zero used acc bs = Ok (acc, bs)
goals_in (suc n) used acc bs =
    and_then (number NoSuccessor bs)
    (λ p. cond (nat_lt (used + length acc) 64000)
    (goals_on (λ rest. goals_in n used (acc ++ (p.0 ∷ [])) rest) (acc ++ (p.0 ∷ [])) p.1 (behind (44 ∷ []) p.1))
    (Err (slip TooManyMoves p.1)))

-- each successor takes a byte at least
unfoldable pub goals : ℕ → List ℕ → Result (List ℕ × List ℕ) Slip
goals used bs = goals_in (suc (length bs)) used [] bs

-- "NAME", which may be missing: any bytes but a quote
abbrev pub name_up_to : List ℕ → Option ℕ → Result (List ℕ × List ℕ) Slip
name_up_to bs None = Err (slip Quote bs)
name_up_to bs (Some n) = Ok (take n bs, drop (n + 1) bs)

abbrev pub name_in : List ℕ → Result (List ℕ × List ℕ) Slip
name_in bs = name_up_to bs (position (λ b. b == 34) bs)

abbrev pub name_on : List ℕ → Option (List ℕ) → Result (List ℕ × List ℕ) Slip
name_on bs None = Ok ([], bs)
name_on bs (Some r) = name_in r

abbrev pub name : List ℕ → Result (List ℕ × List ℕ) Slip
name bs = name_on bs (behind (34 ∷ []) bs)

-- a semicolon
abbrev pub ended_on : List ℕ → Option (List ℕ) → Result (List ℕ) Slip
ended_on bs None = Err (slip End bs)
ended_on bs (Some r) = Ok r

abbrev pub ended : List ℕ → Result (List ℕ) Slip
ended bs = ended_on (skip bs) (behind (59 ∷ []) bs)

abbrev pub tail : List ℕ → Result (List ℕ × List ℕ) Slip
tail bs = and_then (name bs) (λ p. and_then (ended p.1) (λ r. Ok (p.0, r)))

-- what a node says; left is how many bytes of the text are left where it begins
pub record Entry : Type 0 where
  pub first : Head
  pub left : ℕ
  pub goes : List ℕ
  pub named : List ℕ

-- ID PRIORITY OWNER SUCC,SUCC,.. "NAME";
abbrev pub node : ℕ → List ℕ → Result (Entry × List ℕ) Slip
node used bs =
    and_then (head bs) (λ h. and_then (goals used h.1) (λ g. and_then (tail g.1) (λ t. Ok (record { first = h.0; left = length bs; goes = g.0; named = t.0 }, t.1))))

-- the successors of all nodes
abbrev pub all_goes : List Entry → List ℕ
all_goes es = flat_map (λ e. e.goes) es

abbrev pub ids_in : List Entry → List ℕ
ids_in es = map (λ e. e.first.id) es

abbrev pub priorities_in : List Entry → List ℕ
priorities_in es = map (λ e. e.first.priority) es

-- the nodes up to the end of the text, at most 16,384; acc are those read so far, and n more are looked at
abbrev pub nodes_on : (List ℕ → Result (List Entry) Slip) → List Entry → List ℕ → Result (List Entry) Slip
nodes_on more acc [] = Ok acc
nodes_on more acc (b ∷ bs) = more (b ∷ bs)

unfoldable pub nodes_in : ℕ → List Entry → List ℕ → Result (List Entry) Slip
nodes_in zero acc bs = Ok acc
nodes_in (suc n) acc bs =
    nodes_on
    (λ here. cond (nat_lt (length acc) 16384) (and_then (node (length (all_goes acc)) here) (λ p. nodes_in n (acc ++ (p.0 ∷ [])) p.1)) (Err (slip TooManyNodes here)))
    acc (skip bs)

unfoldable pub nodes : List ℕ → Result (List Entry) Slip
nodes bs = nodes_in (suc (length bs)) [] bs

-- a word, a number and a semicolon, which may be missing
abbrev pub header_on : List ℕ → Option (List ℕ) → Result (List ℕ) Slip
header_on bs None = Ok bs
header_on bs (Some r) = and_then (number Number r) (λ p. ended p.1)

abbrev pub header : List ℕ → List ℕ → Result (List ℕ) Slip
header w bs = header_on bs (behind w bs)

-- parity
abbrev pub parity_word : List ℕ
parity_word = 112 ∷ 97 ∷ 114 ∷ 105 ∷ 116 ∷ 121 ∷ []

-- start
abbrev pub start_word : List ℕ
start_word = 115 ∷ 116 ∷ 97 ∷ 114 ∷ 116 ∷ []

-- parity N; start N; and the nodes
abbrev pub entries : List ℕ → Result (List Entry) Slip
entries text = and_then (header parity_word text) (λ bs. and_then (header start_word bs) nodes)
