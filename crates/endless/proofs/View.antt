-- The game that words are: what they read as, and what a view of it shows.
use Rattle.std.proofs.Common.{◌≡◌, ℕ, ◌<◌, List, [], ◌∷◌, length, get_or, sym, refl, ap, ◌∙◌, subst, arith}
use Rattle.std.proofs.lemmas.List.{take_at, drop_at}
use Rattle.endless.specs.Games.{Game, Reads, row}
use Rattle.endless.specs.Graph.{Reading, Placed}
use Rattle.endless.specs.View.{places_in, game_in, words_of}

pub places_in_row : (g : Game) → places_in (length g) (row g) ≡ g
unfolding places_in
places_in_row [] = refl
places_in_row (p ∷ ps) =
    let these = take_at p.moves (row ps) (length p.moves) refl in
    let rest = ap (places_in (length ps)) (drop_at p.moves (row ps) (length p.moves) refl) ∙ places_in_row ps in
    λ i. record { whose = p.whose; weight = p.weight; moves = these i } ∷ rest i

pub game_in_reads : (s : List ℕ) (g : Game) → Reads s g → game_in s ≡ g
unfolding game_in
game_in_reads s g r = ap game_in r.is ∙ places_in_row g

pub reads_in : (s : List ℕ) (g : Game) → Reads s g → Reads s (game_in s)
reads_in s g r = subst (Reads s) (sym (game_in_reads s g r)) r

-- ---- the words that a view holds, and the game that it shows

module _ {s : List ℕ} {g : Game} (e : game_in s ≡ g) (r : Reads s (game_in s)) where
  pub words_are : s ≡ words_of g
  words_are = r.is ∙ ap words_of e

-- where a place's words start, which a view of the game g has written down
pub start_of : {starts : List ℕ} {h g : Game} → h ≡ g → Placed h starts → {n at : ℕ} → n < length g → at ≡ get_or starts n 0 → Reading (words_of h) h n at
start_of {starts} {h} {g} e placed {n} inside is = subst (Reading (words_of h) h n) (sym is) (placed.at n (omega (arith, ap length e)))
