use Rattle.std.proofs.Common.{◌≡◌, string_bytes, arith}
use Rattle.std.proofs.lemmas.Result.{IfOk-weaker}
use Rattle.pgsolver.specs.Ids.{ids_of, names_of}
use Rattle.pgsolver.specs.Written.{game_text, ReadsBack}
use Rattle.pgsolver.proofs.Rereading.{reads_back}
use Rattle.pgsolver.proofs.write.GameText.written.Goals as goal

pub returns-clause-back : goal.returns-clause-back
returns-clause-back c = λ few.
    let ids = ids_of c.args.self.named.now in
    let names = names_of c.args.self.named.now in
    let g = c.args.self.game.now in
    IfOk-weaker c.to_string.result (λ s. string_bytes s ≡ game_text ids names g) (λ s. ReadsBack (string_bytes s) ids names g)
    (λ s is. reads_back ids names g c.len-len.ensures.playable (omega (arith, c.highest-highest.ensures, c.highest-highest.type_inv)) (string_bytes s) is few)
    c.to_string.ensures.ok
