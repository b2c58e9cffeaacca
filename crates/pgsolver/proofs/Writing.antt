-- What is written of a game.
use Rattle.std.proofs.Common.{◌≡◌, ℕ, suc, ◌+◌, ◌-◌, ◌<◌, ◌≤◌, ◌==◌, Bool, true, false, cond, List, [], ◌∷◌, ◌++◌, length, map, take, drop, get_or, sym, refl, ap, ◌∙◌, subst, ⊎_elim, append_assoc, append-nil, add-one, arith}
use lib.Chars.{codes}
use lib.Utf8.{encode}
use Rattle.std.proofs.lemmas.Bool.{cond-false, cases_lt, ne_eqb}
use Rattle.std.proofs.lemmas.Grind.{common_steps}
use Rattle.std.proofs.lemmas.List.{nil_from_length, map-append, map_push, take_more, flat_map_more, get_or-map, get_or_default}
use Rattle.std.proofs.lemmas.Str.{encode_ascii, inside_one}
use Rattle.std.proofs.lemmas.Fmt.{decimal_digit}
use Rattle.std.specs.Fmt.{decimal}
use Rattle.std.specs.List.{All, flat_map, slice_index}
use Rattle.std.specs.Str.{is_utf8}
use Rattle.std.specs.Vec.{vec_items}
use Rattle.endless.specs.declared.side.Side.{Side}
use Rattle.endless.specs.declared.side.Side.TheVariants.{Even, Odd}
use Rattle.endless.specs.declared.place.Head.{Head}
use Rattle.endless.specs.Games.{Game, Reads, whose, weight}
use Rattle.endless.specs.Graph.{moves}
use Rattle.endless.specs.Sides.{number, digit}
use Rattle.endless.proofs.Among.{at_among}
use Rattle.endless.proofs.Places.{to_place}
use Rattle.pgsolver.specs.declared.Named.{Named}
use Rattle.pgsolver.specs.Ids.{ids_of, names_of}
use Rattle.pgsolver.specs.Written.{single, written_name, name_text, successors_text, node_text, place_text, place_texts}
use Rattle.pgsolver.proofs.Calling.{id_of}

-- bytes that are not ASCII stay
wide_stays : (xs : List ℕ) → ((k : ℕ) → k < length xs → 128 ≤ get_or xs k 0) → map single xs ≡ xs
wide_stays [] h = refl
wide_stays (x ∷ xs) h =
    let wide : 128 ≤ x = h 0 (omega arith) in
    let other : single x ≡ x = cond-false _ _ _ (ne_eqb x 34 (λ e. omega arith)) in
    (λ i. other i ∷ wide_stays xs (λ k l. h (suc k) (omega arith)) i)

-- the bytes of a character that is written
single_char : (c : ℕ) → map single (encode c) ≡ encode (single c)
single_char c = ⊎_elim low high (cases_lt c 128)
  where
    small : (t : Bool) → c < 128 → cond t 39 c < 128
    small true h = omega arith
    small false h = h

    low : c < 128 → map single (encode c) ≡ encode (single c)
    low h = ap (map single) (encode_ascii c h) ∙ sym (encode_ascii (single c) (small (c == 34) h))

    high : 128 ≤ c → map single (encode c) ≡ encode (single c)
    high h =
        wide_stays (encode c) (λ k l. ⊎_elim (λ small. absurd (omega (arith, inside_one c [] (encode c) k (sym (append-nil (encode c))) l small, small, h))) (λ wide. wide) (cases_lt (get_or (encode c) k 0) 128))
        ∙ ap encode (sym (cond-false _ _ _ (ne_eqb c 34 (λ e. omega arith))))

-- a name is written character by character
module _ (name out rest : List ℕ) (s : out ++ map single rest ≡ map single name) where
  pub single_pushed : (c d : ℕ) (more : List ℕ) → rest ≡ encode c ++ more → d ≡ single c → (out ++ encode d) ++ map single more ≡ map single name
  single_pushed c d more took is =
      ap (λ x. (out ++ encode x) ++ map single more) is
      ∙ append_assoc out (encode (single c)) (map single more)
      ∙ ap (λ l. out ++ l) (sym (ap (map single) took ∙ map-append single (encode c) more ∙ ap (λ l. l ++ map single more) (single_char c)))
      ∙ s

  pub single_over : length rest ≡ 0 → out ≡ map single name
  single_over z = sym (append-nil out) ∙ ap (λ l. out ++ map single l) (sym (nil_from_length rest z)) ∙ s

-- a name that is text
module _ (name t : List ℕ) (is : t ≡ cond (is_utf8 name) name []) where
  written : map single t ≡ written_name name
  written = ap (map single) is ∙ at (is_utf8 name)
    where
      at : (b : Bool) → map single (cond b name []) ≡ cond b (map single name) []
      at true = refl
      at false = refl

  pub no_name : length t ≡ 0 → name_text (written_name name) ≡ []
  no_name z = ap name_text (sym written) ∙ ap (λ l. name_text (map single l)) (nil_from_length t z)

  pub some_name : 0 < length t → name_text (written_name name) ≡ 32 ∷ 34 ∷ (map single t ++ 34 ∷ [])
  some_name l = ap name_text (sym written) ∙ at t l
    where
      at : (bs : List ℕ) → 0 < length bs → name_text (map single bs) ≡ 32 ∷ 34 ∷ (map single bs ++ 34 ∷ [])
      at [] l = absurd (omega arith)
      at (b ∷ bs) l = refl

-- what is written one after the other, in one piece
in_one : (a b c s n e : List ℕ) → (((a ++ (32 ∷ (b ++ (32 ∷ (c ++ (32 ∷ [])))))) ++ s) ++ n) ++ e ≡ a ++ (32 ∷ (b ++ (32 ∷ (c ++ (32 ∷ (s ++ (n ++ e)))))))
in_one a b c s n e = simp append_assoc

-- one successor more
pub successors_more : (f : ℕ → ℕ) (m : ℕ) (ms : List ℕ) (k d : ℕ) → k < length ms → successors_text (map f (m ∷ take (k + 1) ms)) ≡ successors_text (map f (m ∷ take k ms)) ++ (44 ∷ decimal (f (get_or ms k d)))
successors_more f m ms k d h =
    let comma = λ (y : ℕ). codes "," ++ decimal y in
    ap (λ l. decimal (f m) ++ flat_map comma l) (ap (map f) (take_more ms k d h) ∙ map_push f (take k ms) (get_or ms k d))
    ∙ sym (flat_map_more comma (decimal (f m)) (map f (take k ms)) (f (get_or ms k d)))

-- a move that is not the first
pub later_within : (n : ℕ) (ms : List ℕ) (k : ℕ) → All (λ m. m < n) ms → k < length (take (length ms - 1) (drop 1 ms)) → get_or (take (length ms - 1) (drop 1 ms)) k 0 < n
later_within n ms k h l = grind (arith, common_steps, h (k + 1) 0)

-- the moves of a place lead to places
pub within : {s : List ℕ} {g : Game} → Reads s g → (n : ℕ) (ms : List ℕ) → ms ≡ moves g n → All (λ m. m < length g) ms
within {s} {g} r n ms e k d h =
    let inside : k < length (moves g n) = omega (arith, h, ap length e) in
    subst (λ m. m < length g) (sym (ap (λ l. get_or l k d) e ∙ get_or_default (moves g n) k d 0 inside)) (to_place r n _ (at_among (moves g n) k inside))

owner_text : (w : Side) → digit w ≡ decimal (number w)
owner_text w = sym (decimal_digit (number w) (small w))
  where
    small : (v : Side) → number v < 10
    small Even = omega arith
    small Odd = omega arith

-- what is written of place n is its line
module _ (places : List Named) (g : Game) (n : ℕ) (d : Named) (head : Head) (ms name : List ℕ) (inside : n < length places) (light : head.weight ≡ weight g n) (owns : number head.whose ≡ whose g n) (lead : ms ≡ moves g n) (named : name ≡ vec_items (get_or places n d).name) where
  goes : List ℕ → List ℕ
  goes l = map (slice_index (ids_of places)) l

  pub place_is : (((decimal (get_or places n d).id ++ (32 ∷ (decimal head.weight ++ (32 ∷ (digit head.whose ++ (32 ∷ [])))))) ++ successors_text (map (slice_index (ids_of places)) ms)) ++ name_text (written_name name)) ++ codes ";\n" ≡ place_text (ids_of places) (names_of places) g n
  unfolding goes
  place_is =
      let id = (get_or places n d).id in
      in_one (decimal id) (decimal head.weight) (digit head.whose) (successors_text (goes ms)) (name_text (written_name name)) (codes ";\n")
      ∙ ap (λ o. decimal id ++ (32 ∷ (decimal head.weight ++ (32 ∷ (o ++ (32 ∷ (successors_text (goes ms) ++ (name_text (written_name name) ++ codes ";\n")))))))) (owner_text head.whose)
      ∙ ap (λ x. node_text x head.weight (number head.whose) (goes ms) (written_name name)) (sym (id_of places n d inside))
      ∙ ap (λ x. node_text (slice_index (ids_of places) n) x (number head.whose) (goes ms) (written_name name)) light
      ∙ ap (λ x. node_text (slice_index (ids_of places) n) (weight g n) x (goes ms) (written_name name)) owns
      ∙ ap (λ x. node_text (slice_index (ids_of places) n) (weight g n) (whose g n) (goes x) (written_name name)) lead
      ∙ ap (λ x. node_text (slice_index (ids_of places) n) (weight g n) (whose g n) (goes (moves g n)) (written_name x)) (named ∙ sym (get_or-map (λ p. vec_items p.name) places n d [] inside))

-- one line more
pub texts_more : (ids : List ℕ) (names : List (List ℕ)) (g : Game) (n : ℕ) (a b c : List ℕ) → a ++ (b ++ (c ++ place_texts ids names g (n + 1))) ≡ (a ++ (b ++ (c ++ place_texts ids names g n))) ++ place_text ids names g n
texts_more ids names g n a b c = ap (λ k. a ++ (b ++ (c ++ place_texts ids names g k))) (add-one n) ∙ in_front (place_texts ids names g n) (place_text ids names g n)
  where
    in_front : (l t : List ℕ) → a ++ (b ++ (c ++ (l ++ t))) ≡ (a ++ (b ++ (c ++ l))) ++ t
    in_front l t = simp append_assoc
