-- The parts of the lent words: they fit, and the first level has its room.
use Rattle.std.proofs.Common.{◌≡◌, ℕ, ◌+◌, ◌*◌, ◌<◌, ◌≤◌, T, ltb, List, length, sym, ap, subst, mul-le-mul_right, add-mul, arith, ltb→lt, lt→ltb}
use Rattle.std.proofs.lemmas.Bool.{lt-ltb}
use Rattle.endless.specs.Games.{Game, Reads}
use Rattle.endless.specs.Says.{side, goes}
use Rattle.endless.specs.Sets.{In, Within, whole}
use Rattle.endless.specs.Subgames.{Subgame, Solves}
use Rattle.endless.specs.Bits.{members, size}
use Rattle.endless.specs.Graph.{edges}
use Rattle.endless.specs.Weights.{occurs, kinds}
use Rattle.endless.specs.declared.desk.Desk.{Desk}
use Rattle.endless.specs.Levels.{Room}
use Rattle.endless.specs.Layout.{width, lent_for, LentIsEnough, LaidOut, Fits}
use Rattle.endless.specs.View.{words_of, Playable}
use Rattle.endless.specs.declared.layout.Layout.{Layout}
use Rattle.endless.proofs.Tests.{true_T}
use Rattle.endless.proofs.Places.{ok_size, weight_below}
use Rattle.endless.proofs.Sets.{whole_in, whole_place}
use Rattle.endless.proofs.CountLaws.{count_le, count_sub, count_below}
use Rattle.endless.proofs.Sources.{edges_long}
use Rattle.endless.proofs.Preds.{words_length}
use Rattle.endless.proofs.Steps.{whole_subgame, subgame_as}
use Rattle.endless.proofs.Turns.{solves_same}

-- the set of all places, as bits
module _ (g : Game) (own : List ℕ) (are : (j : ℕ) → members own j ≡ ltb j (length g)) where
  pub filled_whole : Within (members own) (whole g)
  filled_whole n x = whole_in g n (ltb→lt n (length g) (subst T (are n) x))

  pub whole_filled : Within (whole g) (members own)
  whole_filled n x = subst T (sym (are n)) (lt→ltb n (length g) (whole_place g n x))

  pub filled_solved : (out : List ℕ) → Solves g (members own) (side out) (goes out) → Solves g (whole g) (side out) (goes out)
  filled_solved out = solves_same (members own) (whole g) filled_whole whole_filled

  pub filled_subgame : {s : List ℕ} → Reads s g → Subgame g (members own)
  filled_subgame r = subgame_as (whole g) (members own) whole_filled filled_whole (whole_subgame r)

-- the graph that is laid out is the game
pub laid_graph : {lent : ℕ} {g : Game} (r : Layout) → LaidOut lent g r → LaidOut lent r.graph r
laid_graph {lent} r laid = subst (λ (h : Game). LaidOut lent h r) (sym laid.is) laid

-- a set of places has no more of them than there are
inside_size : (set : List ℕ) (k : ℕ) → k ≤ 32 * length set → ((n : ℕ) → In (members set) n → n < k) → size set ≤ k
unfolding size
inside_size set k room inside = omega (arith, count_sub (members set) (λ j. ltb j k) (32 * length set) (λ j l e. lt-ltb j k (inside j (true_T _ e))), count_below k (32 * length set) room)

-- and the first level has its room
pub first_room : {g : Game} {set queue via escapes rest : List ℕ} (sets : List ℕ) (desk : Desk) → Playable g → Fits g queue via escapes set rest → Subgame g (members set) → 2 * length g ≤ length desk.out.now → desk.queue.now ≡ queue → desk.via.now ≡ via → length desk.escapes.now ≡ length escapes → length sets ≡ kinds g * length set → Room g 256 set sets desk
first_room {g} {set} sets desk reads fits sub answers q v e long =
    let most = (ok_size _ g reads).1 in
    let w : 32 * width (length g) ≤ length g + 31 = omega arith in
    let holds : length g ≤ 32 * length set = omega (arith, fits.wide) in
    record {
      subgame = sub;
      light = λ n x. weight_below reads n;
      sized = record { sets = holds; answers = answers; counts = omega (arith, fits.counts, e) };
      queues = omega (arith, inside_size set (length g) holds sub.places, ap length q, fits.queues);
      beside = omega (arith, inside_size set (length g) holds sub.places, ap length v, fits.beside);
      small = omega (arith, fits.wide);
      sets = omega (arith, long);
    }

-- what has to be lent is enough
pub lent_is_enough : LentIsEnough
lent_is_enough s g r =
    let n = length g in
    let most = (ok_size s g r).1 in
    let kinds-most : kinds g + 1 ≤ 257 = omega (arith, count_le (occurs g) 256) in
    let wide = mul-le-mul_right (width n) kinds-most in
    let w : 32 * width n ≤ n + 31 = omega arith in
    omega (arith, wide, ap length r.is, words_length g, edges_long r)

-- and so in parts: the set of all places, and behind it one for each level
pub sets_fit : (g : Game) → Playable g → ((length g + length g) + (width (length g) + width (length g) + length g) + ((length g + 1) + (length g + 1) + edges g)) + (((length g + 1) + (length g + 1) + length g) + (width (length g) + kinds g * width (length g))) ≤ lent_for g
sets_fit g r = omega (arith, lent_is_enough (words_of g) g r, add-mul (kinds g) 1 (width (length g)))
