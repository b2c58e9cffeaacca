use Rattle.std.proofs.Common.{refl, subst, arith, rules}
use Rattle.std.specs.Option.{MatchOption}
use Rattle.std.proofs.lemmas.Bool.{eq-eqb}
use Rattle.std.proofs.lemmas.List.FromFn.{length-range_with_len}
use Rattle.std.proofs.lemmas.Iterator.{YieldsList-from_range}
use Rattle.endless.specs.Games.{Game, Reads}
use Rattle.endless.proofs.Readers.{Reading, reading_none, reading_all, reading_behind, read_in_turns}
use Rattle.endless.proofs.Tests.{true_T}
use Rattle.endless.proofs.Places.{ok_size}
use Rattle.endless.proofs.Theorems.{parts}
use Rattle.endless.proofs.words.is_game.Goals as goal

pub returns-in_default : goal.returns-in_default
returns-in_default c = record {
  says = (λ t. absurd t, λ g. let size = ok_size c.args.words.now g.0 g.1 in c.in_default.ensures _ _ g.1.is size.0 size.1);
  parts = parts;
}

pub returns-in_default-try_fold : goal.returns-in_default-try_fold
returns-in_default-try_fold c =
    let p = c.in-Some.ensures in
    let read = read_in_turns _ _ c.args.words.now c.in-Some.places c.try_fold.result _ _ c.try_fold.ensures.ran
    (λ at x r h q. search rules) (YieldsList-from_range 0 c.in-Some.places c.in-Some.places (cc) (omega arith)) (length-range_with_len 0 c.in-Some.places)
    (reading_none c.args.words.now c.in-Some.places p.0 p.1 p.2 p.3) in
    let none = subst (λ o. MatchOption o ((g : Game) → Reads c.args.words.now g → ⊥) (λ end. Reading c.args.words.now c.in-Some.places c.in-Some.places end)) c.in_default-try_fold.is read in
    record { says = (λ t. absurd t, λ g. none g.0 g.1); parts = parts }

pub returns : goal.returns
returns c =
    let p = c.in-Some.ensures in
    let read = read_in_turns _ _ c.args.words.now c.in-Some.places c.try_fold.result _ _ c.try_fold.ensures.ran
    (λ at x r h q. search rules) (YieldsList-from_range 0 c.in-Some.places c.in-Some.places (cc) (omega arith)) (length-range_with_len 0 c.in-Some.places)
    (reading_none c.args.words.now c.in-Some.places p.0 p.1 p.2 p.3) in
    let all = subst (λ o. MatchOption o ((g : Game) → Reads c.args.words.now g → ⊥) (λ end. Reading c.args.words.now c.in-Some.places c.in-Some.places end)) c.in-Some-try_fold.is read in
    record {
      says = (
        λ t. reading_all c.args.words.now c.in-Some.places c.in-Some.places c.in-Some-try_fold.end refl all (search rules),
        λ g. let end = reading_behind c.args.words.now c.in-Some.places c.in-Some.places c.in-Some-try_fold.end refl all g.0 g.1 in true_T _ (eq-eqb _ _ end),
      );
      parts = parts;
    }
