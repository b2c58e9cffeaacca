-- The lent words have room for what parting the places needs.
use Rattle.std.proofs.Common.{◌≡◌, ℕ, ◌+◌, ◌*◌, ◌≤◌, length, ap, arith}
use Rattle.endless.specs.Games.{Game}
use Rattle.endless.specs.Graph.{edges}
use Rattle.endless.specs.Layout.{LaidOut}
use Rattle.endless.specs.View.{Playable, words_of}
use Rattle.endless.specs.declared.layout.Layout.{Layout}
use Rattle.endless.proofs.Places.{ok_size}
use Rattle.endless.proofs.Sources.{edges_long}
use Rattle.quotient.proofs.Merging.{words_long}

-- eight lists of places, one more word, and a set
pub rest_room : {lent : ℕ} {g : Game} {r : Layout} → LaidOut lent g r → 65536 + 4 * length (words_of g) ≤ lent → (k : Game) → k ≡ g → Playable k → (n : ℕ) → n ≡ length k → 8 * n + 1 + length r.all.now ≤ length r.rest.now
rest_room {g = g} laid enough k is playable n e =
    let size = ok_size (words_of k) k playable in
    let same : length k ≡ length g = ap length is in
    let long = words_long g in
    let taken = laid.taken in
    let wide = laid.wide in
    omega (arith, size.1, edges_long playable, ap edges is)
