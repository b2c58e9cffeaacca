-- What `winning_moves` promises, for each of its answers.
use Rattle.std.proofs.Common.{◌≡◌, ℕ, ◌+◌, ◌-◌, ◌<◌, ◌≤◌, Ok, Err, List, length, get_or, drop, sym, refl, ap, ◌∙◌, arith}
use Rattle.std.proofs.lemmas.List.{ext_get_or, get_or-drop, length-drop}
use Rattle.endless.specs.declared.refusal.Refusal.TheVariants.{Few, NoGame, OutFull}
use Rattle.endless.specs.Games.{Game, Reads}
use Rattle.moves.specs.Moves.{room, lent_for_moves, Marked, MovesPost}

module _ {s : List ℕ} {lent : ℕ} {o : List ℕ} where
  pub few_post : lent < lent_for_moves s → MovesPost s lent o o (Err Few)
  few_post h = record { says = refl; few = (λ x. refl, λ e. h) }

  module _ (enough : lent_for_moves s ≤ lent) where
    pub no_game_post : ((g : Game) → Reads s g → ⊥) → MovesPost s lent o o (Err NoGame)
    no_game_post none = record { says = (none, refl); few = (λ x. absurd (omega arith), λ e. cc) }

    pub out_full_post : (g : Game) → Reads s g → length o < room g → MovesPost s lent o o (Err OutFull)
    out_full_post g reads short = record { says = (g, reads, short, refl); few = (λ x. absurd (omega arith), λ e. cc) }

    pub done_post : {p : List ℕ} (g : Game) → Reads s g → room g ≤ length o → length p ≡ length o → Marked g p → ((i : ℕ) → room g ≤ i → get_or p i 0 ≡ get_or o i 0) → MovesPost s lent o p (Ok tt)
    done_post {p} g reads inside long marked behind = record {
      says = (
        g,
        reads,
        inside,
        marked,
        ext_get_or 0 (drop (room g) p) (drop (room g) o) (length-drop (room g) p ∙ ap (λ (n : ℕ). n - room g) long ∙ sym (length-drop (room g) o))
            (λ i h. get_or-drop (room g) p i 0 ∙ behind (room g + i) (omega arith) ∙ sym (get_or-drop (room g) o i 0)),
      );
      few = (λ x. absurd (omega arith), λ e. cc);
    }
