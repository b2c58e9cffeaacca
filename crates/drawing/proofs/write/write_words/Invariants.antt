use Rattle.std.proofs.Common.{◌≡◌, ◌≤◌, suc, [], ◌∷◌, length, drop}
use Rattle.drawing.specs.Reading.{lines, word_lines}
use Rattle.drawing.proofs.write.write_words.Given as goal

-- the words so far and the lines left give what all lines give
abbrev pub invariant-loop-number : goal.invariant-loop-number
invariant-loop-number l = record {
  few : l.used ≤ 64000;
  so_far : word_lines l.kind (suc (length l.yielded)) l.names l.used l.words.items (drop (length l.yielded) (lines l.text)) ≡ word_lines l.kind 1 l.names 0 (length l.names ∷ []) (lines l.text);
}
