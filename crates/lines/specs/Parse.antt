-- A line's digits, decoded: what call it asks for.
use Rattle.std.specs.Prelude.{◌≡◌, List, ℕ, ◌≤◌, ◌<◌, length, None, Some}
use Rattle.std.proofs.Common.{ap, sym, ◌∙◌}
use borrow.Author.Tests.{lt-ltb, le-ltb}
use Rattle.hexadecimal.specs.Hex.{bytes_of}
use Rattle.replies.specs.Line.{call_of, call_in, parse}

module _ (line : List ℕ) where
  -- "one with over 512 digits"
  pub parse_long : 512 < length line → parse line ≡ None
  unfolding parse
  parse_long h = rw (lt-ltb 512 (length line) h)

  module _ (h : length line ≤ 512) where
    parse_is : parse line ≡ call_in (bytes_of line)
    unfolding parse
    parse_is = rw (le-ltb 512 (length line) h)

    -- "an odd number of digits or another character"
    pub parse_malformed : None ≡ bytes_of line → parse line ≡ None
    parse_malformed e = parse_is ∙ ap call_in (sym e)

    pub parse_bytes : (x : List ℕ) → Some x ≡ bytes_of line → parse line ≡ call_of x
    parse_bytes x e = parse_is ∙ ap call_in (sym e)
