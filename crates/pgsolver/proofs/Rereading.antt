-- A game that is written is read again.
use Rattle.std.proofs.Common.{◌≡◌, ℕ, zero, suc, ◌+◌, ◌<◌, ◌≤◌, ◌==◌, Bool, true, false, not, cond, List, [], ◌∷◌, ◌++◌, length, map, drop, get_or, Some, None, Ok, Result, sym, refl, ap, ◌∙◌, subst, append_assoc, append-nil, add-one, add-zero, zero-add, arith}
use lib.Chars.{codes}
use Rattle.std.specs.Char.{is_ascii_digit}
use Rattle.std.specs.Fmt.{decimal}
use Rattle.std.specs.List.{slice_index, fold, flat_map, list_all, prefix_len, position_or_len}
use Rattle.std.specs.Str.{is_utf8}
use Rattle.std.proofs.Math.Nat.{le-max_left, le-max_right}
use Rattle.std.proofs.lemmas.Bool.{cond-true, cond-false, lt-ltb, and_parts, and_from}
use Rattle.std.proofs.lemmas.Bool.Decides.{nat_tests}
use Rattle.std.proofs.lemmas.List.{length-append, length-map, length_push, take_at}
use Rattle.endless.specs.declared.side.Side.{Side}
use Rattle.endless.specs.declared.side.Side.TheVariants.{Even, Odd}
use Rattle.endless.specs.Games.{Game, Among, whose, weight}
use Rattle.endless.specs.Graph.{moves, edges}
use Rattle.endless.specs.Sides.{number as side_number}
use Rattle.endless.specs.View.{Playable}
use Rattle.endless.proofs.Places.{ok_size, side_below, weight_below, has_move}
use Rattle.pgsolver.specs.declared.refusal.Fault.TheVariants.{Number, NoSuccessor}
use Rattle.pgsolver.specs.declared.refusal.Slip.{Slip}
use Rattle.pgsolver.specs.declared.node.Head.{Head}
use Rattle.pgsolver.specs.Form.{Entry, node, nodes, entries, header, header_on, parity_word, start_word, skip, starts, and_then, behind, number, owner_of, owner, head, goals, name_up_to, name_in, name, ended, tail}
use Rattle.pgsolver.specs.Ids.{highest}
use Rattle.pgsolver.specs.Written.{single, written_name, successors, successors_text, name_text, node_text, place_text, place_texts, game_text, SaysPlace, ReadsBack}
use Rattle.pgsolver.proofs.Gathers.{LeftNodes, nodes_first, nodes_all, nodes_more, node_is}
use Rattle.pgsolver.proofs.Goals.{LeftGoals, goals_first, goals_more, goals_last}
use Rattle.pgsolver.proofs.Numerals.{Begins, begins, skip_one, skip_begins, Follows, number_to, number_behind}

then_is : {A B : Type 0} (x : Result A Slip) (a : A) (f : A → Result B Slip) → x ≡ Ok a → and_then x f ≡ f a
then_is x a f e = ap (λ y. and_then y f) e

blank_follows : (rest : List ℕ) → Follows (32 ∷ rest)
blank_follows rest = record { byte = 32; rest = rest; is = refl; other = refl }

-- ID PRIORITY OWNER
owner_read : (w : Side) (rest : List ℕ) → owner (32 ∷ (decimal (side_number w) ++ (32 ∷ rest))) ≡ Ok (w, 32 ∷ rest)
owner_read w rest = then_is (number Number (32 ∷ (decimal (side_number w) ++ (32 ∷ rest)))) (side_number w, 32 ∷ rest) owner_of (number_behind Number (side_number w) (32 ∷ rest) (blank_follows rest) (small w)) ∙ at w
  where
    small : (v : Side) → side_number v < 4294967296
    small Even = omega arith
    small Odd = omega arith

    at : (v : Side) → owner_of (side_number v, 32 ∷ rest) ≡ Ok (v, 32 ∷ rest)
    at Even = refl
    at Odd = refl

head_read : (h : Head) (rest : List ℕ) → h.id < 4294967296 → h.priority < 4294967296 → head (decimal h.id ++ (32 ∷ (decimal h.priority ++ (32 ∷ (decimal (side_number h.owner) ++ (32 ∷ rest)))))) ≡ Ok (h, 32 ∷ rest)
head_read h rest l m =
    let own = 32 ∷ (decimal (side_number h.owner) ++ (32 ∷ rest)) in
    let two = 32 ∷ (decimal h.priority ++ own) in
    then_is (number Number (decimal h.id ++ two)) (h.id, two) (λ i. and_then (number Number i.1) (λ p. and_then (owner p.1) (λ o. Ok (record { id = i.0; priority = p.0; owner = o.0 }, o.1)))) (number_to Number h.id two (blank_follows (decimal h.priority ++ own)) l)
    ∙ then_is (number Number two) (h.priority, own) (λ p. and_then (owner p.1) (λ o. Ok (record { id = h.id; priority = p.0; owner = o.0 }, o.1))) (number_behind Number h.priority own (blank_follows (decimal (side_number h.owner) ++ (32 ∷ rest))) m)
    ∙ then_is (owner own) (h.owner, 32 ∷ rest) (λ o. Ok (record { id = h.id; priority = h.priority; owner = o.0 }, o.1)) (owner_read h.owner rest)

-- SUCC,SUCC,..
commas : List ℕ → List ℕ
commas xs = flat_map (λ y. codes "," ++ decimal y) xs

-- what stands behind the successors
record Ends (text : List ℕ) : Type 0 where
  follows : Follows text
  none : behind (44 ∷ []) text ≡ None

commas_follow : (xs text : List ℕ) → Ends text → Follows (commas xs ++ text)
unfolding commas
commas_follow [] text e = e.follows
commas_follow (x ∷ xs) text e = record { byte = 44; rest = (decimal x ++ flat_map (λ y. codes "," ++ decimal y) xs) ++ text; is = refl; other = refl }

AllFit : List ℕ → Type 0
AllFit [] = Unit {0}
AllFit (x ∷ xs) = (x < 4294967296) × AllFit xs

goals_on : (used : ℕ) (text own rest : List ℕ) → LeftGoals used text own rest → (x : ℕ) (xs end : List ℕ) → Ends end → number NoSuccessor rest ≡ Ok (x, commas xs ++ end) → AllFit xs → used + length own + suc (length xs) ≤ 64000 → goals used text ≡ Ok (own ++ (x ∷ xs), end)
unfolding commas AllFit
goals_on used text own rest s x [] end e h fit few = goals_last used text own rest s x end h (omega (arith, few)) (own ++ (x ∷ [])) refl e.none
goals_on used text own rest s x (y ∷ ys) end e h fit few =
    let next = (decimal y ++ commas ys) ++ end in
    let more = goals_more used text own rest s x (44 ∷ next) h (omega (arith, few)) (own ++ (x ∷ [])) refl next refl in
    let is : number NoSuccessor next ≡ Ok (y, commas ys ++ end) = ap (number NoSuccessor) (append_assoc (decimal y) (commas ys) end) ∙ number_to NoSuccessor y (commas ys ++ end) (commas_follow ys end e) fit.0 in
    goals_on used text (own ++ (x ∷ [])) next more y ys end e is fit.1 (omega (arith, few, length-append own (x ∷ [])))
    ∙ ap (λ l. Ok (l, end)) (append_assoc own (x ∷ []) (y ∷ ys))

goals_read : (used x : ℕ) (xs end : List ℕ) → Ends end → AllFit (x ∷ xs) → used + suc (length xs) ≤ 64000 → goals used (32 ∷ (successors_text (x ∷ xs) ++ end)) ≡ Ok (x ∷ xs, end)
unfolding commas AllFit
goals_read used x xs end e fit few =
    let text = 32 ∷ (successors_text (x ∷ xs) ++ end) in
    let is : number NoSuccessor text ≡ Ok (x, commas xs ++ end) = ap (λ l. number NoSuccessor (32 ∷ l)) (append_assoc (decimal x) (commas xs) end) ∙ number_behind NoSuccessor x (commas xs ++ end) (commas_follow xs end e) fit.0 in
    goals_on used text [] text (goals_first used text [] refl) x xs end e is fit.1 (omega (arith, few))

-- "NAME";
abbrev Clear : List ℕ → Type 0
Clear name = list_all (λ b. not (b == 34)) name ≡ true

up_to : (name rest : List ℕ) → Clear name → prefix_len (λ b. not (b == 34)) (name ++ (34 ∷ rest)) ≡ length name
up_to [] rest h = refl
up_to (b ∷ bs) rest h =
    let p = and_parts (not (b == 34)) (list_all (λ c. not (c == 34)) bs) h in
    cond-true (not (b == 34)) (1 + prefix_len (λ c. not (c == 34)) (bs ++ (34 ∷ rest))) 0 p.0 ∙ omega (arith, up_to bs rest p.1)

behind_name : (name rest : List ℕ) → drop (suc (length name)) (name ++ (34 ∷ rest)) ≡ rest
behind_name [] rest = refl
behind_name (b ∷ bs) rest = behind_name bs rest

name_read : (name rest : List ℕ) → Clear name → name_in (name ++ (34 ∷ rest)) ≡ Ok (name, rest)
name_read name rest h =
    let text = name ++ (34 ∷ rest) in
    let at = up_to name rest h in
    let inside : position_or_len (λ b. b == 34) text < length text = omega (arith, at, length-append name (34 ∷ rest)) in
    ap (name_up_to text) (cond-true _ _ _ (lt-ltb _ _ inside) ∙ ap Some at)
    ∙ (λ i. Ok (take_at name (34 ∷ rest) (length name) refl i, (ap (λ k. drop k text) (add-one (length name)) ∙ behind_name name rest) i))

tail_read : (name rest : List ℕ) → Clear name → tail (name_text name ++ (59 ∷ rest)) ≡ Ok (name, rest)
tail_read [] rest h = refl
tail_read (b ∷ bs) rest h =
    ap (λ l. and_then (name_in l) (λ p. and_then (ended p.1) (λ r. Ok (p.0, r)))) (append_assoc (b ∷ bs) (34 ∷ []) (59 ∷ rest))
    ∙ then_is (name_in ((b ∷ bs) ++ (34 ∷ 59 ∷ rest))) (b ∷ bs, 59 ∷ rest) (λ p. and_then (ended p.1) (λ r. Ok (p.0, r))) (name_read (b ∷ bs) (59 ∷ rest) h)

name_ends : (name rest : List ℕ) → Ends (name_text name ++ (59 ∷ rest))
name_ends [] rest = record { follows = record { byte = 59; rest = rest; is = refl; other = refl }; none = refl }
name_ends (b ∷ bs) rest = record { follows = record { byte = 32; rest = 34 ∷ (((b ∷ bs) ++ (34 ∷ [])) ++ (59 ∷ rest)); is = refl; other = refl }; none = refl }

-- ID PRIORITY OWNER SUCC,SUCC,.. "NAME"; on a line, with more behind it
module _ (used : ℕ) (h : Head) (x : ℕ) (xs name more : List ℕ) (low : h.id < 4294967296) (light : h.priority < 4294967296) (fit : AllFit (x ∷ xs)) (few : used + suc (length xs) ≤ 64000) (clear : Clear name) where
  here : List ℕ
  here = node_text h.id h.priority (side_number h.owner) (x ∷ xs) name ++ more

  apart : here ≡ decimal h.id ++ (32 ∷ (decimal h.priority ++ (32 ∷ (decimal (side_number h.owner) ++ (32 ∷ (successors_text (x ∷ xs) ++ (name_text name ++ (59 ∷ 10 ∷ more))))))))
  unfolding here
  apart = in_one (decimal h.id) (decimal h.priority) (decimal (side_number h.owner)) (successors_text (x ∷ xs)) (name_text name)
    where
      in_one : (a b c d e : List ℕ) → (a ++ (32 ∷ (b ++ (32 ∷ (c ++ (32 ∷ (d ++ (e ++ (59 ∷ 10 ∷ []))))))))) ++ more ≡ a ++ (32 ∷ (b ++ (32 ∷ (c ++ (32 ∷ (d ++ (e ++ (59 ∷ 10 ∷ more))))))))
      in_one a b c d e = simp append_assoc

  node_read : node used here ≡ Ok (record { first = h; left = length here; goes = x ∷ xs; named = name }, 10 ∷ more)
  node_read =
      let end = name_text name ++ (59 ∷ 10 ∷ more) in
      node_is used here h (32 ∷ (successors_text (x ∷ xs) ++ end)) (x ∷ xs) end name (10 ∷ more)
      (ap head apart ∙ head_read h (successors_text (x ∷ xs) ++ end) low light)
      (goals_read used x xs end (name_ends name (10 ∷ more)) fit few)
      (tail_read name (10 ∷ more) clear)

  here_begins : Begins here
  here_begins =
      let rest = 32 ∷ (decimal h.priority ++ (32 ∷ (decimal (side_number h.owner) ++ (32 ∷ (successors_text (x ∷ xs) ++ (name_text name ++ (59 ∷ 10 ∷ more))))))) in
      subst Begins (sym apart) (begins h.id rest low)

-- no id is above the highest
up_to_highest : (a : ℕ) (xs : List ℕ) → a ≤ fold Prim.Native.Nat.max a xs
up_to_highest a [] = omega arith
up_to_highest a (x ∷ xs) = omega (arith, up_to_highest (Prim.Native.Nat.max a x) xs, le-max_left a x)

at_most_highest : (a : ℕ) (xs : List ℕ) (n : ℕ) → get_or xs n 0 ≤ fold Prim.Native.Nat.max a xs
at_most_highest a [] n = omega arith
at_most_highest a (x ∷ xs) zero = omega (arith, up_to_highest (Prim.Native.Nat.max a x) xs, le-max_right a x)
at_most_highest a (x ∷ xs) (suc n) = at_most_highest (Prim.Native.Nat.max a x) xs n

-- no double quote is left in a name
clear_name : (name : List ℕ) → Clear (written_name name)
clear_name name = at (is_utf8 name)
  where
    byte : (b : ℕ) → not (single b == 34) ≡ true
    byte b = grind (arith, nat_tests)

    all : (bs : List ℕ) → Clear (map single bs)
    all [] = refl
    all (b ∷ bs) = and_from _ _ (byte b) (all bs)

    at : (t : Bool) → Clear (cond t (map single name) [])
    at true = all name
    at false = refl

no_letter : (b : ℕ) → is_ascii_digit b ≡ true → (b == 115) ≡ false
no_letter b h = grind (arith, nat_tests)

-- the moves that are left of a game
edges_drop : (g : Game) (n : ℕ) → n < length g → edges (drop n g) ≡ length (moves g n) + edges (drop (suc n) g)
edges_drop [] n h = absurd (omega arith)
edges_drop (p ∷ ps) zero h = refl
edges_drop (p ∷ ps) (suc n) h = edges_drop ps n (omega arith)

owner_is : (x : ℕ) → x < 2 → (w : Side) × (side_number w ≡ x)
owner_is zero h = (Even, refl)
owner_is (suc zero) h = (Odd, refl)
owner_is (suc (suc x)) h = absurd (omega arith)

none_among : {m : ℕ} → Among m [] → ⊥
none_among h = elim h [ ]

module _ (ids : List ℕ) (names : List (List ℕ)) (g : Game) (playable : Playable g) (low : highest ids < 4294967296) where
  head_at : ℕ → Head
  head_at n = record { id = get_or ids n 0; priority = weight g n; owner = (owner_is (whose g n) (side_below playable n)).0 }

  -- the lines of k places, from place n on, and what they say
  lines_from : ℕ → ℕ → List ℕ
  lines_from zero n = []
  lines_from (suc k) n = place_text ids names g n ++ lines_from k (suc n)

  entry_at : ℕ → ℕ → Entry
  entry_at k n = record { first = head_at n; left = length (lines_from (suc k) n); goes = successors ids g n; named = written_name (get_or names n []) }

  entries_from : ℕ → ℕ → List Entry
  entries_from zero n = []
  entries_from (suc k) n = entry_at k n ∷ entries_from k (suc n)

  all_fit : (ms : List ℕ) → AllFit (map (slice_index ids) ms)
  unfolding AllFit
  all_fit [] = tt
  all_fit (m ∷ ms) = (omega (arith, low, at_most_highest 0 ids m), all_fit ms)

  -- a line that is read
  record Read (used k n : ℕ) : Type 0 where
    node_is : node used (lines_from (suc k) n) ≡ Ok (entry_at k n, 10 ∷ lines_from k (suc n))
    begins : Begins (lines_from (suc k) n)

  place_read : (used k n : ℕ) → n < length g → used + length (moves g n) ≤ 64000 → Read used k n
  unfolding head_at lines_from entry_at here
  place_read used k n h few = at (moves g n) refl
    where
      w : (w : Side) × (side_number w ≡ whose g n)
      w = owner_is (whose g n) (side_below playable n)

      more : List ℕ
      more = lines_from k (suc n)

      called : List ℕ
      called = written_name (get_or names n [])

      at : (ms : List ℕ) → moves g n ≡ ms → Read used k n
      at [] e = let m = has_move playable n h in absurd (none_among (subst (Among m.0) e m.1))
      at (m ∷ ms) e =
          let f : ℕ → ℕ = slice_index ids in
          let xs = map f ms in
          let is : node_text (f n) (weight g n) (side_number w.0) (f m ∷ xs) called ++ more ≡ lines_from (suc k) n = ap (λ o. node_text (f n) (weight g n) o (f m ∷ xs) called ++ more) w.1 ∙ ap (λ l. node_text (f n) (weight g n) (whose g n) (map f l) called ++ more) (sym e) in
          let fits = all_fit (m ∷ ms) in
          let id : f n < 4294967296 = omega (arith, low, at_most_highest 0 ids n) in
          let light : weight g n < 4294967296 = omega (arith, weight_below playable n) in
          let room : used + suc (length xs) ≤ 64000 = omega (arith, few, ap length e, length-map ms f) in
          let read = node_read used (head_at n) (f m) xs called more id light fits room (clear_name (get_or names n [])) in
          let begun = here_begins used (head_at n) (f m) xs called more id light fits room (clear_name (get_or names n [])) in
          record {
            node_is = subst (λ l. node used (lines_from (suc k) n) ≡ Ok (record { first = head_at n; left = length (lines_from (suc k) n); goes = l; named = called }, 10 ∷ more)) (ap (map f) (sym e)) (subst (λ t. node used t ≡ Ok (record { first = head_at n; left = length t; goes = f m ∷ xs; named = called }, 10 ∷ more)) is read);
            begins = subst Begins is begun;
          }

  -- line after line
  nodes_from : (k n used : ℕ) (text rest : List ℕ) (read : List Entry) → LeftNodes text read used rest → rest ≡ 10 ∷ lines_from k n → n + k ≡ length g → length read ≡ n → used + edges (drop n g) ≤ 64000 → nodes text ≡ Ok (read ++ entries_from k n)
  unfolding lines_from entries_from entry_at
  nodes_from zero n used text rest read s is many as_many few = nodes_all text read used rest s [] (sym (ap skip is)) refl ∙ ap Ok (sym (append-nil read))
  nodes_from (suc k) n used text rest read s is many as_many few =
      let h : n < length g = omega (arith, many) in
      let falls = edges_drop g n h in
      let r = place_read used k n h (omega (arith, few, falls)) in
      let here = lines_from (suc k) n in
      let at : here ≡ skip rest = sym (ap skip is ∙ skip_one 10 here refl ∙ skip_begins here r.begins) in
      let some : length here ≡ 0 → ⊥ = λ z. omega (arith, z, ap length r.begins.is) in
      let long : length read < 16384 = omega (arith, as_many, h, (ok_size _ g playable).1) in
      let e = entry_at k n in
      let next = 10 ∷ lines_from k (suc n) in
      let left = nodes_more text read used rest s here at some long e next r.node_is (read ++ (e ∷ [])) refl in
      let goes : length e.goes ≡ length (moves g n) = length-map (moves g n) (slice_index ids) in
      nodes_from k (suc n) (used + length e.goes) text next (read ++ (e ∷ [])) left refl (omega (arith, many)) (omega (arith, as_many, length_push read e)) (omega (arith, few, falls, goes))
      ∙ ap Ok (append_assoc read (e ∷ []) (entries_from k (suc n)))

  lines_split : (k n : ℕ) → place_texts ids names g n ++ lines_from k n ≡ place_texts ids names g (n + k)
  unfolding lines_from
  lines_split zero n = append-nil (place_texts ids names g n) ∙ ap (place_texts ids names g) (sym (add-zero n))
  lines_split (suc k) n =
      let m : suc n + k ≡ n + suc k = omega arith in
      sym (append_assoc (place_texts ids names g n) (place_text ids names g n) (lines_from k (suc n))) ∙ lines_split k (suc n) ∙ ap (place_texts ids names g) m

  said : (k n i : ℕ) (d : Entry) → i < k → SaysPlace ids names g (n + i) (get_or (entries_from k n) i d)
  unfolding entries_from entry_at head_at
  said zero n i d h = absurd (omega arith)
  said (suc k) n zero d h = subst (λ m. SaysPlace ids names g m (entry_at k n)) (sym (add-zero n)) (record { id = refl; priority = refl; owner = (owner_is (whose g n) (side_below playable n)).1; goes = refl; named = refl })
  said (suc k) n (suc i) d h = let m : suc n + i ≡ n + suc i = omega arith in subst (λ j. SaysPlace ids names g j (get_or (entries_from k (suc n)) i d)) m (said k (suc n) i d (omega arith))

  length_entries : (k n : ℕ) → length (entries_from k n) ≡ k
  unfolding entries_from
  length_entries zero n = refl
  length_entries (suc k) n = ap suc (length_entries k (suc n))

  -- behind the first line
  lines : List ℕ
  lines = lines_from (length g) 0

  lines_begin : edges g ≤ 64000 → Begins lines
  unfolding lines
  lines_begin few = at (length g) refl
    where
      at : (k : ℕ) → length g ≡ k → Begins (lines_from k 0)
      at zero e = absurd (omega (arith, e, (ok_size _ g playable).0))
      at (suc k) e = (place_read 0 k 0 (omega (arith, e)) (omega (arith, few, edges_drop g 0 (omega (arith, e))))).begins

  parity_read : header parity_word (codes "parity " ++ (decimal (highest ids) ++ (codes ";\n" ++ lines))) ≡ Ok (10 ∷ lines)
  parity_read =
      let text = 59 ∷ 10 ∷ lines in
      then_is (number Number (32 ∷ (decimal (highest ids) ++ text))) (highest ids, text) (λ p. ended p.1) (number_behind Number (highest ids) text (record { byte = 59; rest = 10 ∷ lines; is = refl; other = refl }) low)

  start_read : edges g ≤ 64000 → header start_word (10 ∷ lines) ≡ Ok (10 ∷ lines)
  start_read few =
      let b = lines_begin few in
      ap (λ l. header_on (10 ∷ lines) (starts start_word l)) (skip_one 10 lines refl ∙ skip_begins lines b ∙ b.is)
      ∙ ap (header_on (10 ∷ lines)) (cond-false (b.digit == 115) (starts (116 ∷ 97 ∷ 114 ∷ 116 ∷ []) b.rest) None (no_letter b.digit b.digital))

  all_read : edges g ≤ 64000 → entries (game_text ids names g) ≡ Ok (entries_from (length g) 0)
  unfolding lines
  all_read few =
      let split : place_texts ids names g (length g) ≡ lines = sym (lines_split (length g) 0 ∙ ap (place_texts ids names g) (zero-add (length g))) in
      ap (λ l. entries (codes "parity " ++ (decimal (highest ids) ++ (codes ";\n" ++ l)))) split
      ∙ then_is (header parity_word (codes "parity " ++ (decimal (highest ids) ++ (codes ";\n" ++ lines)))) (10 ∷ lines) (λ bs. and_then (header start_word bs) nodes) parity_read
      ∙ then_is (header start_word (10 ∷ lines)) (10 ∷ lines) nodes (start_read few)
      ∙ nodes_from (length g) 0 0 (10 ∷ lines) (10 ∷ lines) [] (nodes_first (10 ∷ lines) [] refl) refl (zero-add (length g)) refl (omega (arith, few))

  pub reads_back : (text : List ℕ) → text ≡ game_text ids names g → edges g ≤ 64000 → ReadsBack text ids names g
  reads_back text is few = record {
    nodes = entries_from (length g) 0;
    said = ap entries is ∙ all_read few;
    as_many = length_entries (length g) 0;
    says = λ n d h. subst (λ m. SaysPlace ids names g m (get_or (entries_from (length g) 0) n d)) (zero-add n) (said (length g) 0 n d h);
  }
