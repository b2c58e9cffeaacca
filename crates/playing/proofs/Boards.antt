-- What a solved game says of its places, and of a step.
use Rattle.std.specs.Prelude.{◌+◌, ◌*◌, ◌≤◌, All, IfOk, IfSome, MatchOption, MatchResult, Ok, Err, Result}
use Rattle.std.proofs.Common.{true, ◌≡◌, ℕ, ◌<◌, List, length, get_or, Some, None, Option, sym, refl, ap, ◌∙◌, subst, arith}
use Rattle.std.proofs.lemmas.Bool.{both_ways}
use Rattle.std.proofs.lemmas.Grind.{get_or_default_zero}
use Rattle.std.specs.Result.{is_ok}
use Rattle.endless.specs.Games.{Game, Reads, May}
use Rattle.endless.specs.Graph.{moves}
use Rattle.endless.specs.Says.{WinsFrom, goes}
use Rattle.endless.specs.Sides.{number}
use Rattle.endless.specs.Promises.{SolvedPost}
use Rattle.endless.specs.declared.refusal.Refusal.{Refusal}
use Rattle.endless.specs.declared.refusal.Refusal.TheVariants.{Few, NoGame, NoPlace, OutFull}
use Rattle.endless.specs.declared.side.Side.{Side}
use Rattle.endless.specs.declared.side.Side.TheVariants.{Even, Odd}
use Rattle.endless.proofs.Among.{at_among}
use Rattle.endless.proofs.Places.{to_place}
use Rattle.endless.proofs.View.{game_in_reads}
use Rattle.playing.specs.Boards.{Won, Answered, ByPlanHere, Stepped}
use Rattle.playing.specs.Solutions.{Solution}

-- two games that words read as are one, so an answer to one is an answer to the other
pub answered_too : {s : List ℕ} {g g' : Game} {o : List ℕ} → Reads s g → Reads s g' → Answered g o → Answered g' o
answered_too {o = o} r r' a = subst (λ g. Answered g o) (sym (game_in_reads _ _ r) ∙ game_in_reads _ _ r') a

-- a board of the game that words are, with the answer that solves them
pub answered_board : {s o : List ℕ} (b : Solution) → Reads s b.game → b.answer ≡ o → (g : Game) × (Reads s g × Answered g o) → Answered b.game b.answer
answered_board b reads is solved = subst (Answered b.game) (sym is) (answered_too solved.1.0 reads solved.1.1)

-- what is promised of an `Ok` holds, where `ok` gave something
pub held : {P : Type 0} (r : Result (Unit {0}) Refusal) → true ≡ is_ok r → IfOk r (λ _. P) → P
held (Ok u) e p = p
held (Err _) e p = absurd (both_ways true e refl)

-- with a board, its answer is one to the game that the words are; what `None` says of one call is carried to another
pub answered_or : {N M : Type 0} (s o : List ℕ) (r : Option Solution) → MatchOption r N (λ b. Reads s b.game) → IfSome r (λ b. b.answer ≡ o) → (g : Game) × (Reads s g × Answered g o) → (N → M)
    → MatchOption r M (λ b. Reads s b.game × Answered b.game b.answer)
answered_or s o None none is solved carried = carried none
answered_or s o (Some b) reads is solved carried = (reads, answered_board b reads is solved)

-- with as many words lent as the solver asks for, and an answer's room for each place, only words that are no game are refused
pub solved_or_none : {s o o' : List ℕ} {lent : ℕ} (r : Result (Unit {0}) Refusal) → SolvedPost s lent o o' r → 65536 + 4 * length s ≤ lent → length o ≡ 2 * get_or s 0 0 → length o' ≡ length o
    → MatchResult r (λ _. (g : Game) × (Reads s g × Answered g o')) (λ _. (g : Game) → Reads s g → ⊥)
solved_or_none (Ok u) post enough room long =
    let says = post.says in
    (says.0, (says.1, record { room = subst (λ l. 2 * length says.0 ≤ l) (sym long) says.2; fair = says.3; even = says.4; odd = says.5 }))
solved_or_none (Err NoGame) post enough room long = post.says.0
solved_or_none (Err OutFull) post enough room long =
    let says = post.says in
    absurd (omega (arith, ap (λ l. get_or l 0 0) says.1.is, says.2, room))
solved_or_none (Err Few) post enough room long = absurd (omega (arith, post.few.1 refl))
solved_or_none (Err NoPlace) post enough room long = absurd post.says

-- all moves of a place are places
pub moves_within : {s : List ℕ} {g : Game} → Reads s g → (n : ℕ) → All (λ m. m < length g) (moves g n)
moves_within {s} {g} r n k d h = subst (λ m. m < length g) (sym (get_or_default_zero (moves g n) k d h)) (to_place r n (get_or (moves g n) k 0) (at_among (moves g n) k h))

-- the plan wins for either side from the places given to it
pub wins : {g : Game} {o : List ℕ} → Answered g o → (w : Side) → WinsFrom g (number w) (goes o) (Won g o (number w))
wins a Even = a.even
wins a Odd = a.odd

module _ {g : Game} {o : List ℕ} (answered : Answered g o) (w : Side) (n choice : ℕ) (here : n < length g) where
  -- by choice
  pub stepped_choice : (ByPlanHere g o (number w) n → ⊥) → choice < length (moves g n) → All (λ m. m < length g) (moves g n) → Stepped g o (number w) n choice (get_or (moves g n) choice 0)
  stepped_choice d h within =
      let may : May g n (get_or (moves g n) choice 0) = at_among (moves g n) choice h in
      record {
        may = may;
        planned = λ by. absurd (d by);
        chosen = λ _. refl;
        stays = λ won. ((wins answered w).held n (get_or (moves g n) choice 0) (here, won) (λ own. d (own, won)) may).1;
        within = within choice 0 h;
      }
