-- Turns of the loops that decode and encode.
use Rattle.std.specs.Prelude.{◌≡◌, refl, List, [], ◌∷◌, ◌++◌, ℕ, ◌+◌, ◌*◌, ◌/◌, ◌%◌, ◌≤◌, ◌<◌, min, ltb, length, take, get_or, Option, None, Some}
use Rattle.std.proofs.Common.{ap, ap₂, sym, ◌∙◌, append_assoc, append-nil, arith, add-one, take-suc}
use Rattle.std.specs.Option.{SomeIff, MatchOption, IsSomeAnd}
use Rattle.std.specs.Char.{digit_value}
use Rattle.std.proofs.lemmas.Bool.Decides.{nat_tests}
use Rattle.lists.specs.Test.{pick}
use borrow.Author.Tests.{lt-ltb, le-ltb}
use Rattle.hexadecimal.specs.Hex.{value_of, byte_before, bytes_of, digit_of, digits_of}

-- ---- a digit's value

value_is : (c : ℕ) → value_of c ≡ pick (ltb (digit_value c) 16) (Some (digit_value c)) None
unfolding value_of
value_is c = grind (arith, nat_tests)

-- the library's digit of an ASCII code, below 16, as the number r
pub value_law : (o r : Option ℕ) (c d : ℕ) (P : ℕ → ℕ → Type 0) → d ≡ c → SomeIff o (digit_value d < 16) (digit_value d)
    → MatchOption o (r ≡ None) (λ x. IsSomeAnd r (P x)) → ((x y : ℕ) → P x y → y ≡ x) → r ≡ value_of c
value_law None r c d P e f h p =
    let n : ¬ (digit_value c < 16) = rw e at f in
    let m : 16 ≤ digit_value c = omega arith in
    rw (value_is c, le-ltb (digit_value c) 16 m) h
value_law (Some x) None c d P e f h p = absurd h
value_law (Some x) (Some y) c d P e f h p =
    let l : digit_value c < 16 = rw e at f.0 in
    rw (value_is c, lt-ltb (digit_value c) 16 l) (ap Some (p x y h ∙ f.1 ∙ ap digit_value e))

-- ---- decoding

-- bytes found already, before those that are left
abbrev pub behind : List ℕ → Option (List ℕ) → Option (List ℕ)
behind x None = None
behind x (Some y) = Some (x ++ y)

behind_byte : (x : List ℕ) (h l : ℕ) (o : Option (List ℕ)) → behind (x ++ (h * 16 + l) ∷ []) o ≡ behind x (byte_before (Some h) (Some l) o)
behind_byte x h l None = refl
behind_byte x h l (Some y) = ap Some (append_assoc x ((h * 16 + l) ∷ []) y)

before_none : (o : Option ℕ) (p : Option (List ℕ)) → byte_before o None p ≡ None
before_none None p = refl
before_none (Some h) p = refl

pub behind_none : (o : Option (List ℕ)) → behind [] o ≡ o
behind_none None = refl
behind_none (Some y) = refl

before_low : (x : List ℕ) (o : Option ℕ) (p : Option (List ℕ)) → None ≡ behind x (byte_before o None p)
before_low x o p = ap (behind x) (sym (before_none o p))

-- A pair p at the front of the digits s that are left, before the digits r: two, or the last one.
module _ (x p r s : List ℕ) (e : s ≡ p ++ r) where
  module _ (l : 2 ≤ length p) (m : length p < 3) where
    next : bytes_of s ≡ byte_before (value_of (get_or p 0 0)) (value_of (get_or p 1 0)) (bytes_of r)
    unfolding bytes_of
    next = go p e l m
      where
        go : (q : List ℕ) → s ≡ q ++ r → 2 ≤ length q → length q < 3 → bytes_of s ≡ byte_before (value_of (get_or q 0 0)) (value_of (get_or q 1 0)) (bytes_of r)
        go [] f j k = absurd (omega arith)
        go (a ∷ []) f j k = absurd (omega arith)
        go (a ∷ b ∷ []) f j k = ap bytes_of f
        go (a ∷ b ∷ c ∷ q) f j k = absurd (omega arith)

    -- one turn: the pair's byte is found
    pub decode_turn : (u v : ℕ) → Some u ≡ value_of (get_or p 0 0) → Some v ≡ value_of (get_or p 1 0)
        → behind (x ++ (u * 16 + v) ∷ []) (bytes_of r) ≡ behind x (bytes_of s)
    decode_turn u v f g = behind_byte x u v (bytes_of r) ∙ ap₂ (λ y z. behind x (byte_before y z (bytes_of r))) f g ∙ ap (behind x) (sym next)

    -- "another character"
    pub decode_high : None ≡ value_of (get_or p 0 0) → None ≡ behind x (bytes_of s)
    decode_high f = ap (λ z. behind x (byte_before z (value_of (get_or p 1 0)) (bytes_of r))) f ∙ ap (behind x) (sym next)

    pub decode_low : None ≡ value_of (get_or p 1 0) → None ≡ behind x (bytes_of s)
    decode_low f =
        before_low x (value_of (get_or p 0 0)) (bytes_of r)
        ∙ ap (λ z. behind x (byte_before (value_of (get_or p 0 0)) z (bytes_of r))) f
        ∙ ap (behind x) (sym next)

  -- "an odd number of digits"
  pub decode_odd : (length p ≡ 2 → ⊥) → length p ≡ min 2 (length s) → 0 < length s → None ≡ behind x (bytes_of s)
  unfolding bytes_of
  decode_odd n m h = go s (let k : length s ≡ 1 = omega arith in k)
    where
      go : (d : List ℕ) → length d ≡ 1 → None ≡ behind x (bytes_of d)
      go [] k = absurd (omega arith)
      go (a ∷ []) k = refl
      go (a ∷ b ∷ d) k = absurd (omega arith)

pub decode_end : (x s : List ℕ) → length s ≡ 0 → Some x ≡ behind x (bytes_of s)
unfolding bytes_of
decode_end x [] h = ap Some (sym (append-nil x))
decode_end x (a ∷ s) h = absurd (omega arith)

-- ---- encoding

digits_append : (x y : List ℕ) → digits_of (x ++ y) ≡ digits_of x ++ digits_of y
unfolding digits_of
digits_append [] y = refl
digits_append (b ∷ x) y = ap (λ z. digit_of (b / 16) ∷ digit_of (b % 16) ∷ z) (digits_append x y)

-- one turn: two digits more
pub encode_turn : (x d : List ℕ) (i u v : ℕ) → i < length x → u ≡ digit_of (get_or x i 0 / 16) → v ≡ digit_of (get_or x i 0 % 16) → d ≡ digits_of (take i x)
    → (d ++ u ∷ []) ++ v ∷ [] ≡ digits_of (take (i + 1) x)
unfolding digits_of
encode_turn x d i u v h p q e =
    append_assoc d (u ∷ []) (v ∷ [])
    ∙ ap₂ (λ y z. y ++ z) e (ap₂ (λ y z. y ∷ z ∷ []) p q)
    ∙ sym (digits_append (take i x) (get_or x i 0 ∷ []))
    ∙ ap digits_of (sym (ap (λ j. take j x) (add-one i) ∙ take-suc x i 0 h))
