-- The theorems that public calls promise, gathered.
use Rattle.endless.specs.Promises.{Parts, Further}
use Rattle.endless.proofs.Unique.{one_game}
use Rattle.endless.proofs.Exclusive.{not_both}
use Rattle.endless.proofs.Determinacy.{each_is_won}
use Rattle.endless.proofs.Plans.{one_wins, winner_wins}
use Rattle.endless.proofs.Rounds.{rounds_are_won}
use Rattle.endless.proofs.Plays.{rounds_win}
use Rattle.endless.proofs.Only.{only_answer}
use Rattle.endless.proofs.Heaviest.{some_heaviest, plan_wins}
use Rattle.endless.proofs.Shifting.{some_heaviest_found, named_as_shift}
use Rattle.endless.proofs.Levels.{levels_fall}
use Rattle.endless.proofs.Layouts.{lent_is_enough}
use Rattle.endless.proofs.Cases.{three_places}

pub parts : Parts
parts = record { p1 = one_game; p2 = not_both; p3 = each_is_won; p4 = one_wins; p5 = rounds_are_won; p6 = rounds_win }

pub further : Further
further = record { only_answer = only_answer; some_heaviest = some_heaviest; some_heaviest_found = some_heaviest_found; named_as_shift = named_as_shift; plan_wins = plan_wins; winner_wins = winner_wins; lent_is_enough = lent_is_enough; levels_fall = levels_fall; example = three_places }
