-- Words on answers that don't convert.
use Rattle.std.specs.Prelude.{ℕ, Bool, List, [], codes}
use Rattle.http_conn.specs.Replies.{answer_text}

-- the media type of an answer that holds a line of text (RFC 2046, section 4.1.3)
abbrev pub plain_text : List ℕ
plain_text = codes "text/plain"

-- an answer without content
abbrev pub bare_answer : ℕ → Bool → List ℕ
bare_answer status close = answer_text status [] [] close
