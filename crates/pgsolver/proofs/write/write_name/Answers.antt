use Rattle.std.proofs.Common.{refl, subst, sym, arith, rules}
use lib.Utf8.{encode}
use Rattle.std.specs.Fmt.{HasWritten}
use Rattle.std.proofs.lemmas.Grind.{common_steps}
use Rattle.std.proofs.Output.{has_written_append}
use Rattle.pgsolver.proofs.Writing.{no_name, some_name}
use Rattle.pgsolver.proofs.write.write_name.Goals as goal

pub returns-then-is_empty : goal.returns-then-is_empty
returns-then-is_empty g c = λ p ok. subst (λ l. HasWritten g.W.Write.write_str_gives c.args.f.now l c.args.f.now) (sym (no_name c.args.name.now c.text-name.result.now c.text-name.ensures (grind (arith, common_steps)))) (search rules)

pub returns : goal.returns
unfolding encode
returns g c = λ p ok.
    let blank = c.in_ok-write_char.ensures.writes p refl in
    subst (λ l. HasWritten g.W.Write.write_str_gives c.args.f.now l c.write_quoted.new.f) (sym (some_name c.args.name.now c.text-name.result.now c.text-name.ensures (grind (arith, common_steps)))) (has_written_append _ _ _ _ _ _ blank (c.write_quoted.ensures blank.plain ok))
