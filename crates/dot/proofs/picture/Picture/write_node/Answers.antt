use Rattle.std.proofs.Common.{ap, ◌∙◌}
use Rattle.std.proofs.Output.{has_written_of_eq}
use Rattle.dot.specs.Pictures.{shape, node_text, node_line}
use Rattle.dot.proofs.picture.Picture.write_node.Goals as goal

pub returns : goal.returns
unfolding node_line
returns g c = λ p ok. has_written_of_eq _ _ _ _ _ (λ i. node_text c.args.n ((c.shape-shape.ensures ∙ ap shape c.head.ensures.whose) i) (c.name.ensures i) (c.weight-weight.ensures.weight i) (c.look-look.ensures i)) (c.writeln.ensures.writes p ok)
