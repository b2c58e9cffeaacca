-- A text is read in two passes, and then is the drawing of a game.
use Rattle.std.proofs.Common.{◌≡◌, ℕ, ◌≤◌, true, T, List, [], ◌∷◌, length, Ok, sym, ap, ◌∙◌, subst, arith}
use Rattle.std.proofs.lemmas.List.{length-map}
use Rattle.std.proofs.lemmas.Bool.{le-leb, and_from}
use Rattle.endless.specs.Games.{Game, row as words}
use Rattle.drawing.specs.declared.kind.Kind.{Kind}
use Rattle.drawing.specs.declared.kind.Kind.TheVariants.{Endless, WithEnds}
use Rattle.drawing.specs.Reading.{lines, name_lines, word_lines}
use Rattle.drawing.specs.Passes.{Apart}
use Rattle.drawing.specs.Drawn.{entries, ReadsAs, Drawn}
use Rattle.drawing.proofs.Apartness.{lines_follow, apart_different}
use Rattle.drawing.proofs.Gaming.{fits, played, places_many}

none_apart : Apart []
none_apart i l = absurd (omega arith)

reads_as : (kind : Kind) (ws : List ℕ) (g : Game) → ws ≡ length g ∷ words g → 1 ≤ length g → length g ≤ 16384 → fits kind (length g) g ≡ true → ReadsAs kind ws g
reads_as Endless ws g is some few ok = record { is = is; fine = subst T (sym (and_from _ _ (le-leb 1 (length g) some) (and_from _ _ (le-leb (length g) 16384 few) ok))) tt }
reads_as WithEnds ws g is some few ok = record { is = is; fine = subst T (sym (and_from _ _ (le-leb 1 (length g) some) (and_from _ _ (le-leb (length g) 16384 few) ok))) tt }

pub drawn : (kind : Kind) (text : List ℕ) (names : List (List ℕ)) (ws : List ℕ) → name_lines kind 1 [] (lines text) ≡ Ok names → (length names ≡ 0 → ⊥) → word_lines kind 1 names 0 (length names ∷ []) (lines text) ≡ Ok ws → Drawn kind text names ws
drawn kind text names ws h some k =
    let f = lines_follow kind (lines text) 1 [] names h in
    let p = played kind (lines text) 1 names 0 (length names ∷ []) ws k in
    let g : Game = p.game in
    let many : length names ≡ length g = ap length f.are ∙ length-map (entries kind (lines text)) (λ e. e.named) ∙ places_many names (entries kind (lines text)) g p.places in
    let few : length names ≤ 16384 = f.few (omega arith) in
    record {
      game = g;
      reads = reads_as kind ws g (p.is ∙ ap (λ n. n ∷ words g) many) (omega (arith, many, some)) (omega (arith, many, few)) (subst (λ n. fits kind n g ≡ true) many p.ok);
      many = many;
      good = p.good;
      named = sym f.are;
      different = apart_different names (f.apart none_apart);
      places = p.places;
    }
