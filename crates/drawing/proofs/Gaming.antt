-- The words are those of a game, place by place as the lines say.
use Rattle.std.proofs.Common.{◌≡◌, ℕ, suc, ◌+◌, ◌<◌, Bool, true, false, cond, leb, List, [], ◌∷◌, ◌++◌, map, length, get_or, Some, None, Ok, Err, Option, Result, sym, refl, ap, ◌∙◌, subst, append_assoc, append-nil, arith}
use Rattle.std.proofs.lemmas.List.{length-map}
use Rattle.std.proofs.lemmas.Bool.{lt-ltb, and_from}
use Rattle.endless.specs.Games.{Place, Game, below, some_of, ok_ps, row as words}
use Rattle.drawing.specs.declared.kind.Kind.{Kind}
use Rattle.drawing.specs.declared.kind.Kind.TheVariants.{Endless, WithEnds}
use Rattle.ends.specs.Ends.{ok_ends}
use Rattle.drawing.specs.Form.{pieces, Entry, Line, nothing, place, bad}
use Rattle.drawing.specs.Reading.{bared, held, Why, many_moves, index_of, and_then, or_unknown, goals, word_line, word_lines}
use Rattle.drawing.specs.Drawn.{with_entry, entries, Good, AllGood, Placed, Places}
use Rattle.drawing.proofs.Apartness.{index_is, ok_err}
use Rattle.drawing.proofs.Entries.{Fine, row_fine}

-- moves written behind acc, each to the place that is named
pub record Gone (names : List (List ℕ)) (acc : List ℕ) (ms : List (List ℕ)) (new : List ℕ) : Type 0 where
  pub to : List ℕ
  pub is : new ≡ acc ++ to
  pub reads : map (λ i. get_or names i []) to ≡ ms
  pub low : below (length names) to ≡ true

pub goals_gone : (n : ℕ) (names : List (List ℕ)) (ms : List (List ℕ)) (acc new : List ℕ) → goals n names acc ms ≡ Ok new → Gone names acc ms new
goals_gone n names [] acc new h = record { to = []; is = (let e : acc ≡ new = cc in sym e) ∙ sym (append-nil acc); reads = refl; low = refl }
goals_gone n names (x ∷ xs) acc new h = at (λ i q. goals_gone n names xs (acc ++ (i ∷ [])) new q) (index_of x names) refl h
  where
    at : ((i : ℕ) → goals n names (acc ++ (i ∷ [])) xs ≡ Ok new → Gone names (acc ++ (i ∷ [])) xs new) → (o : Option ℕ) → index_of x names ≡ o → and_then (or_unknown n x o) (λ i. goals n names (acc ++ (i ∷ [])) xs) ≡ Ok new → Gone names acc (x ∷ xs) new
    at rec None q h = absurd (ok_err h)
    at rec (Some i) q h =
        let g = rec i h in
        let t = index_is x names i q in
        record {
          to = i ∷ g.to;
          is = g.is ∙ append_assoc acc (i ∷ []) g.to;
          reads = λ k. t.1 k ∷ g.reads k;
          low = and_from _ _ (lt-ltb i (length names) t.0) g.low;
        }

-- the places are those of a game of a kind
abbrev pub fits : Kind → ℕ → List Place → Bool
fits Endless n ps = ok_ps n ps
fits WithEnds n ps = ok_ends n ps

fits_none : (kind : Kind) (n : ℕ) → fits kind n [] ≡ true
fits_none Endless n = refl
fits_none WithEnds n = refl

some_true : (ms : List ℕ) → 0 < length ms → some_of ms ≡ true
some_true [] h = absurd (omega arith)
some_true (x ∷ xs) h = refl

fits_more : (kind : Kind) (n : ℕ) (p : Place) (ps : List Place) → p.whose < 2 → p.weight < 256 → (kind ≡ Endless → 0 < length p.moves) → below n p.moves ≡ true → fits kind n ps ≡ true → fits kind n (p ∷ ps) ≡ true
fits_more Endless n p ps sided light some low ok = and_from _ _ (and_from _ _ (lt-ltb p.whose 2 sided) (lt-ltb p.weight 256 light)) (and_from _ _ (and_from _ _ (some_true p.moves (some refl)) low) ok)
fits_more WithEnds n p ps sided light some low ok = and_from _ _ (and_from _ _ (lt-ltb p.whose 2 sided) (lt-ltb p.weight 256 light)) (and_from _ _ low ok)

-- the words of a game written behind acc
pub record Played (kind : Kind) (names : List (List ℕ)) (acc : List ℕ) (ls : List (List ℕ)) (new : List ℕ) : Type 0 where
  pub game : Game
  pub is : new ≡ acc ++ words game
  pub ok : fits kind (length names) game ≡ true
  pub good : AllGood kind ls
  pub places : Places names (entries kind ls) game

module _ (kind : Kind) (names : List (List ℕ)) (acc : List ℕ) (e : Entry) (fine : Fine kind e) (mid : List ℕ) (g : Gone names (acc ++ (e.side ∷ e.weighs ∷ length e.goes ∷ [])) e.goes mid) (ls : List (List ℕ)) (new : List ℕ) (p : Played kind names mid ls new) where
  abbrev here : Place
  here = record { whose = e.side; weight = e.weighs; moves = g.to }

  same_many : length g.to ≡ length e.goes
  same_many = sym (length-map g.to (λ i. get_or names i [])) ∙ ap length g.reads

  play_is : new ≡ acc ++ words (here ∷ p.game)
  play_is =
      p.is ∙ ap (λ l. l ++ words p.game) g.is ∙ append_assoc (acc ++ (e.side ∷ e.weighs ∷ length e.goes ∷ [])) g.to (words p.game) ∙ append_assoc acc (e.side ∷ e.weighs ∷ length e.goes ∷ []) (g.to ++ words p.game) ∙ ap (λ m. acc ++ (e.side ∷ e.weighs ∷ m ∷ (g.to ++ words p.game))) (sym same_many)

  play_ok : fits kind (length names) (here ∷ p.game) ≡ true
  play_ok = fits_more kind (length names) here p.game fine.sided fine.light (λ is. omega (arith, fine.some is, same_many)) g.low p.ok

  play_placed : Placed names e here
  play_placed = record { owns = refl; heavy = refl; moved = g.reads }

pub played : (kind : Kind) (ls : List (List ℕ)) (n : ℕ) (names : List (List ℕ)) (used : ℕ) (acc new : List ℕ) → word_lines kind n names used acc ls ≡ Ok new → Played kind names acc ls new
played kind [] n names used acc new h = record { game = []; is = (let e : acc ≡ new = cc in sym e) ∙ sym (append-nil acc); ok = fits_none kind (length names); good = tt; places = tt }
played kind (l ∷ ls) n names used acc new h = at (λ p q. played kind ls (suc n) names p.0 p.1 new q) (held kind l) refl h
  where
    -- what follows the line is played, so the line and what follows it are
    more : (e : Entry) → held kind l ≡ place e → (mid : List ℕ) → goals n names (acc ++ (e.side ∷ e.weighs ∷ length e.goes ∷ [])) e.goes ≡ Ok mid → Played kind names mid ls new → Played kind names acc (l ∷ ls) new
    more e q mid gone p =
        let g = goals_gone n names e.goes (acc ++ (e.side ∷ e.weighs ∷ length e.goes ∷ [])) mid gone in
        let fine = row_fine kind (pieces (bared l)) e q in
        record {
          game = here kind names acc e fine mid g ls new p ∷ p.game;
          is = play_is kind names acc e fine mid g ls new p;
          ok = play_ok kind names acc e fine mid g ls new p;
          good = (subst Good (sym q) tt, p.good);
          places = subst (λ x. Places names (with_entry x (entries kind ls)) (here kind names acc e fine mid g ls new p ∷ p.game)) (sym q) (play_placed kind names acc e fine mid g ls new p, p.places);
        }

    at : ((p : ℕ × List ℕ) → word_lines kind (suc n) names p.0 p.1 ls ≡ Ok new → Played kind names p.1 ls new) → (x : Line) → held kind l ≡ x → and_then (word_line n names used acc x) (λ p. word_lines kind (suc n) names p.0 p.1 ls) ≡ Ok new → Played kind names acc (l ∷ ls) new
    at rec nothing q h =
        let p = rec (used, acc) h in
        record { game = p.game; is = p.is; ok = p.ok; good = (subst Good (sym q) tt, p.good); places = subst (λ x. Places names (with_entry x (entries kind ls)) p.game) (sym q) p.places }
    at rec (bad f) q h = absurd (ok_err h)
    at rec (place e) q h = counted (leb (used + length e.goes) 64000) h
      where
        found : (r : Result (List ℕ) Why) → goals n names (acc ++ (e.side ∷ e.weighs ∷ length e.goes ∷ [])) e.goes ≡ r → and_then (and_then {A = List ℕ} {B = ℕ × List ℕ} r (λ more. Ok (used + length e.goes, more))) (λ p. word_lines kind (suc n) names p.0 p.1 ls) ≡ Ok new → Played kind names acc (l ∷ ls) new
        found (Ok mid) s k = more e q mid s (rec (used + length e.goes, mid) k)
        found (Err y) s k = absurd (ok_err k)

        counted : (t : Bool) → and_then (cond t (and_then {A = List ℕ} {B = ℕ × List ℕ} (goals n names (acc ++ (e.side ∷ e.weighs ∷ length e.goes ∷ [])) e.goes) (λ more. Ok (used + length e.goes, more))) (Err (many_moves n))) (λ p. word_lines kind (suc n) names p.0 p.1 ls) ≡ Ok new → Played kind names acc (l ∷ ls) new
        counted true k = found (goals n names (acc ++ (e.side ∷ e.weighs ∷ length e.goes ∷ [])) e.goes) refl k
        counted false k = absurd (ok_err k)

pub places_many : (names : List (List ℕ)) (es : List Entry) (g : Game) → Places names es g → length es ≡ length g
places_many names [] [] h = refl
places_many names [] (p ∷ ps) h = absurd h
places_many names (e ∷ es) [] h = absurd h
places_many names (e ∷ es) (p ∷ ps) h = ap suc (places_many names es ps h.1)
