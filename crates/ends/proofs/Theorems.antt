-- The theorems about games with ends, through the games that are made of them.
use Rattle.std.proofs.Common.{◌≡◌, ℕ, ◌<◌, List, ◌∷◌, length, sym, subst, arith}
use Rattle.endless.specs.Games.{Game, row}
use Rattle.endless.specs.Says.{WinsFrom}
use Rattle.ends.specs.Ends.{ReadsEnds, WinsFromEnds, made}
use Rattle.ends.specs.Says.{OneGameEnds, NotBothEnds, OneWinsEnds, EachIsWonEnds, OnlyAnswerEnds, Parts}
use Rattle.ends.proofs.Made.{wins_ends, wins_made}
use Rattle.ends.proofs.Forms.{side_fits, length_made, made_reads, kept_whole}
use Rattle.endless.proofs.Unique.{rows}
use Rattle.endless.proofs.Theorems.{parts as base, further}

one_game : OneGameEnds
one_game s g h r q = rows g h (let e = r.is in let d = q.is in cc)

-- the places given to a side, counted in either game
pub to_made : (s : List ℕ) (g : Game) (w : ℕ) (plan sides : ℕ → ℕ) → ReadsEnds s g → w < 2 → WinsFromEnds g w plan (λ m. (m < length g) × (sides m ≡ w)) → WinsFrom (made g) w plan (λ m. (m < length (made g)) × (sides m ≡ w))
to_made s g w plan sides r l wins = wins_made g w plan (λ m. (m < length (made g)) × (sides m ≡ w)) l (side_fits r) (subst (λ (k : ℕ). WinsFromEnds g w plan (λ m. (m < k) × (sides m ≡ w))) (sym (length_made 0 g)) wins)

pub from_made : (g : Game) (w : ℕ) (plan sides : ℕ → ℕ) → w < 2 → WinsFrom (made g) w plan (λ m. (m < length (made g)) × (sides m ≡ w)) → WinsFromEnds g w plan (λ m. (m < length g) × (sides m ≡ w))
from_made g w plan sides l wins = wins_ends g w plan (λ m. (m < length g) × (sides m ≡ w)) l (subst (λ (k : ℕ). WinsFrom (made g) w plan (λ m. (m < k) × (sides m ≡ w))) (length_made 0 g) wins)

not_both : NotBothEnds
not_both = record { endless = base.p2; ended = λ g n ms a b. omega (arith, a, b) }

one_wins : OneWinsEnds
one_wins s g a b u v n r wa wb = base.p4 (length g ∷ row (made g)) (made g) a b u v n (made_reads s g r) (wins_made g 0 a _ (omega arith) (side_fits r) wa) (wins_made g 1 b _ (omega arith) (side_fits r) wb)

each_is_won : EachIsWonEnds
each_is_won s g r =
    let t = base.p3 (length g ∷ row (made g)) (made g) (made_reads s g r) in
    (t.0, t.1, t.2, t.3, from_made g 0 t.1 t.0 (omega arith) t.4, from_made g 1 t.2 t.0 (omega arith) t.5)

only_answer : OnlyAnswerEnds
only_answer s g sides a b w plan won n r two wa wb l wins h =
    let e = length_made 0 g in
    further.only_answer (length g ∷ row (made g)) (made g) sides a b w plan won n (made_reads s g r) (λ m k. two m (omega (arith, e, k)))
    (to_made s g 0 a sides r (omega arith) wa) (to_made s g 1 b sides r (omega arith) wb) l (wins_made g w plan _ l (side_fits r) wins) (omega (arith, e, h))

pub parts : Parts
parts = record {
  one_game = one_game;
  not_both = not_both;
  one_wins = one_wins;
  each_is_won = each_is_won;
  only_answer = only_answer;
  made_same = record {
    reads = made_reads;
    wins = λ s g w plan won r l. (wins_made g w plan _ l (side_fits r), wins_ends g w plan _ l);
    kept = kept_whole;
  };
}
