-- What is read, looked up, weighed and written is the game that the text lists.
use Rattle.std.proofs.Common.{vec_items, ◌≡◌, ℕ, suc, ◌<◌, ◌≤◌, true, ◌&&◌, T, leb, false, List, [], ◌∷◌, map, length, get_or, Ok, Err, Result, sym, refl, ap, ◌∙◌, subst, arith}
use Rattle.std.specs.Prelude.{Vec}
use Rattle.std.specs.Result.{MatchResult, is_ok}
use Rattle.std.specs.declared.alloc.Global.{Global}
use Rattle.std.proofs.lemmas.List.{length-map, get_or-map}
use Rattle.std.proofs.lemmas.Bool.{le-leb, and_from}
use Rattle.endless.specs.Games.{Game, ok_ps, row as words}
use Rattle.pgsolver.specs.declared.weights.NoWeights.{NoWeights}
use Rattle.pgsolver.specs.declared.weights.NoWeights.TheVariants as weights
use Rattle.pgsolver.specs.declared.wrong.Wrong.{Wrong}
use Rattle.pgsolver.specs.declared.wrong.Wrong.TheVariants.{Twice, Unknown, Priority, Memory}
use Rattle.pgsolver.specs.Form.{Entry, ids_in, priorities_in, entries}
use Rattle.pgsolver.specs.Listed.{Assembles, Assembled, Unassembled, Inside, Listed}
use Rattle.pgsolver.specs.Table.{Apart}
use Rattle.pgsolver.specs.Weights.{Fitted, Unfit, weights_of}
use Rattle.pgsolver.specs.Wrongs.{Missing, Indexed, unweighed, FineAll, Ready, Places, Played, Worded}
use Rattle.pgsolver.proofs.Lengths.{ok_is}
use Rattle.pgsolver.proofs.SameWins.{alike_many, same_wins}

pub ready : (es : List Entry) (ws : List ℕ) → FineAll es → length es ≤ 16384 → Fitted (priorities_in es) ws → Ready ws es
ready es ws f few w = record { fine = f; weighed = w.keeps.long ∙ length-map es (λ e. e.first.priority); low = w.low; few = few }

pub index_wrong : (es : List Entry) (x : Wrong) → Indexed es (Err x) → Unassembled es x
index_wrong es (Twice n) h = h
index_wrong es (Unknown n x) h = absurd h
index_wrong es (Priority n) h = absurd h
index_wrong es Memory h = tt

pub worded_wrong : (es : List Entry) (ids ws : List ℕ) (x : Wrong) → ids ≡ ids_in es → Worded ids es ws (Err x) → Unassembled es x
worded_wrong es ids ws (Twice n) e h = absurd h
worded_wrong es ids ws (Unknown n x) e h = (h.0, h.1, subst (λ l. Missing l x) e h.2)
worded_wrong es ids ws (Priority n) e h = absurd h
worded_wrong es ids ws Memory e h = tt

pub unfit_wrong : (es : List Entry) (x : NoWeights) → Unfit (priorities_in es) x → Unassembled es (unweighed x)
unfit_wrong es (weights.TooMany n) h = h
unfit_wrong es weights.Memory h = tt

-- what is there after `map_err` was there before
pub kept : {A E F : Type 0} (s : Result A E) (r : Result A F) (v : A) (Q : E → Type 0) → MatchResult s (λ y. r ≡ Ok y) Q → is_ok r ≡ is_ok s → r ≡ Ok v → s ≡ Ok v
kept (Ok y) r v Q k l e = ap Ok (ok_is (sym k ∙ e))
kept (Err t) r v Q k l e = absurd (let z : true ≡ false = sym (ap is_ok e) ∙ l in cc)

pub assembled : (es : List Entry) (ids ws : List ℕ) → ids ≡ ids_in es → Apart ids → Fitted (priorities_in es) ws → (r : Result (Vec ℕ Global) Wrong) → Worded ids es ws r → Assembled es r
assembled es ids ws e a f (Ok v) h = record { ws = ws; different = subst Apart e a; fitted = f; played = subst (λ l. Played l es ws (length es ∷ []) (vec_items v)) e h }
assembled es ids ws e a f (Err x) h = worded_wrong es ids ws x e h

pub inside : (es : List Entry) (x : Wrong) → Unassembled es x → Inside es x
inside es (Twice n) u = omega (arith, u.0, length-map es (λ e. e.first.id))
inside es (Unknown n y) u = omega (arith, u.0)
inside es (Priority n) u = omega (arith, u.0, length-map es (λ e. e.first.priority))
inside es Memory u = tt

-- where a node begins, and its id
pub left_is : (es : List Entry) (n : ℕ) (d : Entry) → n < length es → (get_or es n d).left ≡ get_or (map (λ e. e.left) es) n 0
left_is es n d l = sym (get_or-map (λ e. e.left) es n d 0 l)

pub id_is : (es : List Entry) (n : ℕ) (d : Entry) → n < length es → (get_or es n d).first.id ≡ get_or (ids_in es) n 0
id_is es n d l = sym (get_or-map (λ e. e.first.id) es n d 0 l)

places_many : (ids : List ℕ) (es : List Entry) (g : Game) → Places ids es g → length es ≡ length g
places_many ids [] [] h = refl
places_many ids [] (p ∷ ps) h = absurd h
places_many ids (e ∷ es) [] h = absurd h
places_many ids (e ∷ es) (p ∷ ps) h = ap suc (places_many ids es ps h.1)

places_weigh : (ids : List ℕ) (es : List Entry) (g : Game) → Places ids es g → weights_of g ≡ priorities_in es
places_weigh ids [] [] h = refl
places_weigh ids [] (p ∷ ps) h = absurd h
places_weigh ids (e ∷ es) [] h = absurd h
places_weigh ids (e ∷ es) (p ∷ ps) h = ap (λ x. x ∷ weights_of ps) h.0.heavy ∙ ap (λ l. e.first.priority ∷ l) (places_weigh ids es ps h.1)

pub listed : (text : List ℕ) (es : List Entry) (ws ids : List ℕ) (names : List (List ℕ)) → entries text ≡ Ok es → length es ≤ 16384 → (length es ≡ 0 → ⊥) → Assembles es ws → ids ≡ ids_in es → names ≡ map (λ e. e.named) es → Listed text ids names ws
listed text es out ids names said few some a are named =
    let p = a.played in
    let g : Game = p.game in
    let many : length es ≡ length g = places_many (ids_in es) es p.whole p.places ∙ alike_many p.whole g p.alike in
    let all : length (ids_in es) ≡ length g = length-map es (λ e. e.first.id) ∙ many in
    let ok : (leb 1 (length g) && (leb (length g) 16384 && ok_ps (length g) g)) ≡ true =
    and_from _ _ (le-leb 1 (length g) (omega (arith, many, some))) (and_from _ _ (le-leb (length g) 16384 (omega (arith, many, few))) (subst (λ n. ok_ps n g ≡ true) all p.ok)) in
    let weighs : weights_of p.whole ≡ priorities_in es = places_weigh (ids_in es) es p.whole p.places in
    let fits : Fitted (weights_of p.whole) (weights_of g) = subst (λ l. Fitted l (weights_of g)) (sym weighs) (subst (λ l. Fitted (priorities_in es) l) (sym p.weighs) a.fitted) in
    record {
      nodes = es;
      said = said;
      game = g;
      reads = record { is = p.is ∙ ap (λ n. n ∷ words g) many; fine = subst T (sym ok) tt };
      many = ap length are ∙ all;
      are = are;
      named = named;
      different = subst Apart (sym are) a.different;
      whole = p.whole;
      places = subst (λ l. Places l es p.whole) (sym are) p.places;
      alike = p.alike;
      keeps = fits.keeps;
      plain = fits.plain;
      wins = same_wins p.whole g p.alike fits.keeps;
    }
