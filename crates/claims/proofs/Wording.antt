-- The words of the claims, place by place.
use Rattle.std.proofs.Common.{◌≡◌, ℕ, ◌+◌, ◌*◌, ◌<◌, List, [], ◌∷◌, ◌++◌, length, get_or, slice_get, Some, Option, sym, ap, ◌∙◌, ⊎_elim, arith}
use Rattle.std.specs.Option.{unwrap_or}
use Rattle.std.proofs.lemmas.List.{length_push, get_or_append_left, get_or_push}
use Rattle.std.proofs.lemmas.Bool.{cases_lt}
use Rattle.std.proofs.lemmas.Option.{same_Some, slice_get_within}
use Rattle.endless.specs.Sides.{number}
use Rattle.claims.specs.declared.Claim.{Claim}
use Rattle.claims.specs.Tables.{Words, Worded}

-- the words of the first n places
pub record WordedTo (claims : List (Option Claim)) (words : List ℕ) (n : ℕ) : Type 0 where
  pub many : length words ≡ 2 * n
  pub each : (i : ℕ) (o : Option Claim) → i < n → slice_get claims i ≡ Some o → (c : Claim) × (o ≡ Some c) × Words words i c

pub worded_all : (claims : List (Option Claim)) (words : List ℕ) (n : ℕ) → n ≡ length claims → WordedTo claims words n → Worded claims words
worded_all claims words n e w = record {
  many = w.many ∙ ap (λ k. 2 * k) e;
  each = λ i o h. w.each i o (omega (arith, e, slice_get_within claims i o h)) h;
}

kept : (words : List ℕ) (a b i : ℕ) → i < length words → get_or ((words ++ (a ∷ [])) ++ (b ∷ [])) i 0 ≡ get_or words i 0
kept words a b i l = get_or_append_left (words ++ (a ∷ [])) (b ∷ []) 0 i (omega (arith, length_push words a)) ∙ get_or_append_left words (a ∷ []) 0 i l

pub worded_more : (claims : List (Option Claim)) (words : List ℕ) (n : ℕ) (c : Claim) → WordedTo claims words n → slice_get claims n ≡ Some (Some c) → (one two : List ℕ) → one ≡ words ++ (number c.winner ∷ []) → two ≡ one ++ (unwrap_or c.goal 4294967295 ∷ []) → WordedTo claims two (n + 1)
worded_more claims words n c w h one two e f = record {
  many = omega (arith, w.many, ap length is, length_push (words ++ (a ∷ [])) b, length_push words a);
  each = λ i o l g. ⊎_elim (λ k. before i o k g) (λ k. here i o (omega arith) g) (cases_lt i n);
}
  where
    a : ℕ
    a = number c.winner

    b : ℕ
    b = unwrap_or c.goal 4294967295

    is : two ≡ (words ++ (a ∷ [])) ++ (b ∷ [])
    is = f ∙ ap (λ l. l ++ (b ∷ [])) e

    before : (i : ℕ) (o : Option Claim) → i < n → slice_get claims i ≡ Some o → (c : Claim) × (o ≡ Some c) × Words two i c
    before i o l g =
        let t = w.each i o l g in (
          t.0,
          t.1,
          record {
            side = ap (λ l. get_or l (2 * i) 0) is ∙ kept words a b (2 * i) (omega (arith, w.many)) ∙ t.2.side;
            goes = ap (λ l. get_or l (2 * i + 1) 0) is ∙ kept words a b (2 * i + 1) (omega (arith, w.many)) ∙ t.2.goes;
          },
        )

    here : (i : ℕ) (o : Option Claim) → i ≡ n → slice_get claims i ≡ Some o → (c : Claim) × (o ≡ Some c) × Words two i c
    here i o l g = (
      c,
      same_Some o (Some c) (sym g ∙ ap (slice_get claims) l ∙ h),
      record {
        side = ap (λ l. get_or l (2 * i) 0) is ∙ get_or_append_left (words ++ (a ∷ [])) (b ∷ []) 0 (2 * i) (omega (arith, w.many, length_push words a)) ∙ get_or_push words a 0 (2 * i) (omega (arith, w.many));
        goes = ap (λ l. get_or l (2 * i + 1) 0) is ∙ get_or_push (words ++ (a ∷ [])) b 0 (2 * i + 1) (omega (arith, w.many, length_push words a));
      },
    )
