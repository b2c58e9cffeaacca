use Rattle.std.proofs.Common.{length, ap, arith}
use Rattle.endless.proofs.Preds.{words_length}
use Rattle.endless.proofs.View.{words_are}
use Rattle.endless.proofs.words.GameWords.move_count.Goals as goal

pub overflow_sub-result-2 : goal.overflow_sub-result-2
overflow_sub-result-2 c = omega (arith, ap length (words_are c.self.view_is c.self.invariant), words_length c.args.self.now)

pub returns : goal.returns
returns c = omega (arith, ap length (words_are c.self.view_is c.self.invariant), words_length c.args.self.now)
