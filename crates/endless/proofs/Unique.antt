-- Words are at most one game: the counts in them say where each place ends.
use Rattle.std.proofs.Common.{◌≡◌, ℕ, List, [], ◌∷◌, ◌++◌, length, refl, arith}
use Rattle.endless.specs.Games.{Game, row}
use Rattle.endless.specs.Says.{OneGame}

-- two lists in front that are as long as one another, and what follows them
split : (a b x y : List ℕ) → length a ≡ length b → a ++ x ≡ b ++ y → (a ≡ b) × (x ≡ y)
split [] [] x y l e = (refl, e)
split [] (b ∷ bs) x y l e = let z : ◌≡◌ {A = ℕ} 0 1 = cc in absurd (omega arith)
split (a ∷ as') [] x y l e = let z : ◌≡◌ {A = ℕ} 0 1 = cc in absurd (omega arith)
split (a ∷ as') (b ∷ bs) x y l e =
    let t : (as' ≡ bs) × (x ≡ y) = split as' bs x y (cc) (cc) in
    let h : a ≡ b = cc in
    (λ i. h i ∷ t.0 i, t.1)

pub rows : (g h : Game) → row g ≡ row h → g ≡ h
rows [] [] e = refl
rows [] (q ∷ qs) e = let z : ◌≡◌ {A = ℕ} 0 1 = cc in absurd (omega arith)
rows (p ∷ ps) [] e = let z : ◌≡◌ {A = ℕ} 0 1 = cc in absurd (omega arith)
rows (p ∷ ps) (q ∷ qs) e =
    let w : p.whose ≡ q.whose = cc in
    let k : p.weight ≡ q.weight = cc in
    let n : length p.moves ≡ length q.moves = cc in
    let r : p.moves ++ row ps ≡ q.moves ++ row qs = cc in
    let t = split p.moves q.moves (row ps) (row qs) n r in
    let rest = rows ps qs t.1 in
    λ i. record { whose = w i; weight = k i; moves = t.0 i } ∷ rest i

pub one_game : OneGame
one_game s g h r q = rows g h (let e = r.is in let d = q.is in cc)
