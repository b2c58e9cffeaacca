-- The marks of the moves, place by place.
use Rattle.std.proofs.Common.{◌≡◌, ℕ, ◌+◌, ◌<◌, List, length, get_or, drop, ap, ◌∙◌, arith}
use Rattle.std.proofs.lemmas.List.{get_or-drop, drop-drop}
use Rattle.endless.specs.Games.{Game}
use Rattle.endless.specs.Graph.{moves}
use Rattle.moves.specs.Moves.{mark}
use Rattle.moves.specs.Marking.{before}
use Rattle.moves.proofs.Lists.{before_more}

module _ (g : Game) (words rest : List ℕ) (n : ℕ) (left : rest ≡ drop (length g + before g n) words) where
  -- those of place n stand in front of what is left
  pub mark_here : (i k : ℕ) → k ≡ get_or rest i 0 → k ≡ mark g words (before g n + i)
  mark_here i k e =
      let j : length g + before g n + i ≡ length g + (before g n + i) = omega arith in
      e ∙ ap (λ (l : List ℕ). get_or l i 0) left ∙ get_or-drop (length g + before g n) words i 0 ∙ ap (λ (h : ℕ). get_or words h 0) j

  -- behind them are those of the next place
  pub marks_behind : n < length g → (many : ℕ) (after : List ℕ) → many ≡ length (moves g n) → after ≡ drop many rest → after ≡ drop (length g + before g (n + 1)) words
  marks_behind h many after m e =
      let j : length g + before g n + many ≡ length g + before g (n + 1) = omega (arith, before_more g n h, m) in
      e ∙ ap (drop many) left ∙ drop-drop many (length g + before g n) words ∙ ap (λ (k : ℕ). drop k words) j
