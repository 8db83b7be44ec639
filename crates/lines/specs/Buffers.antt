-- WHAT A BUFFER HOLDS after bytes are stored behind those that it has.
use Rattle.std.specs.Prelude.{◌≡◌, List, ◌++◌, ℕ, ◌+◌, min, length, take}
use Rattle.std.proofs.Common.{ap, sym, ◌∙◌, arith, take_all}
use Rattle.std.proofs.Math.Seq.{take-append-add}
use Rattle.lists.specs.Test.{by-lt}

pub take_least : (m : ℕ) (s : List ℕ) → take (min m (length s)) s ≡ take m s
take_least m s = by-lt m (length s)
    (λ h. let e : min m (length s) ≡ m = omega arith in ap (λ k. take k s) e)
    (λ h. let e : min m (length s) ≡ length s = omega arith in ap (λ k. take k s) e ∙ take_all (length s) s (omega arith) ∙ sym (take_all m s h))

-- as many bytes of s as fit behind those that are held, of m in all
pub hold_law : (d s : List ℕ) (k n m : ℕ) → n + length d ≡ m → k ≡ min n (length s) → d ++ take k s ≡ take m (d ++ s)
hold_law d s k n m h e =
    let q : length d + n ≡ m = omega arith in
    ap (λ z. d ++ z) (ap (λ z. take z s) e ∙ take_least n s)
    ∙ sym (take-append-add d s n)
    ∙ ap (λ z. take z (d ++ s)) q
