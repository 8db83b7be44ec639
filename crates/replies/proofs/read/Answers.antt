-- `replies::read`: the bytes are told where it is done.
use Rattle.std.proofs.Common.{rules, ◌≡◌, List, ℕ, ◌∷◌, ◌++◌, ◌+◌, length, take, take_at, add-one, ap, ◌∙◌}
use Rattle.replies.specs.Line.{spoken}
use Rattle.replies.specs.Replies.{spoke_refused, spoke_answered, read_length}
use Rattle.replies.proofs.read.Goals as goal

-- the bytes read, of which there are n, behind the zero byte
behind : (d w : List ℕ) (n : ℕ) → length d ≡ n → take (n + 1) (0 ∷ (d ++ w)) ≡ 0 ∷ d
behind d w n l = rw (add-one n) (ap (λ v. 0 ∷ v) (take_at d w n l))

pub returns-in_err-read : goal.returns-in_err-read
returns-in_err-read c = read_length (search rules) (spoke_refused c.from_residual.result c.in_err-read.field-0.0 (search rules) c.in_err-read.ensures.did)

pub returns : goal.returns
unfolding spoken
returns c =
    let l : length c.read.new.buf ≡ c.from-n.result = search rules in
    read_length (search rules) (spoke_answered c.in_ok-read.ensures.did (c.new.ensures ∙ behind _ _ _ l))
