-- No play is won by both sides: it has at most one heaviest weight.
use Rattle.std.proofs.Common.{◌≡◌, ℕ, ◌%◌, ◌≤◌, subst, arith}
use Rattle.endless.specs.Games.{Game, Play, Heaviest}
use Rattle.endless.specs.Says.{NotBoth}

-- what comes once more behind another's last moment is no heavier than that
below_heaviest : (g : Game) (f : Play) (k m : ℕ) → Heaviest g f k → Heaviest g f m → m ≤ k
below_heaviest g f k m a b =
    let t = b.again a.from in
    let h = a.none_heavier t.0 t.1 in
    subst (λ (x : ℕ). x ≤ k) t.2 h

pub one_heaviest : (g : Game) (f : Play) (k m : ℕ) → Heaviest g f k → Heaviest g f m → k ≡ m
one_heaviest g f k m a b = omega (arith, below_heaviest g f k m a b, below_heaviest g f m k b a)

pub not_both : NotBoth
not_both g f a b =
    let k = a.0 in
    let m = b.0 in
    let e = one_heaviest g f k m a.1 b.1 in
    let x : k % 2 ≡ 0 = a.2 in
    let y : m % 2 ≡ 1 = b.2 in
    let z : ◌≡◌ {A = ℕ} 0 1 = cc in omega arith
