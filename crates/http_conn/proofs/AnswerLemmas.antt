-- An answer, written in its parts: up to the one that wanted memory, or all of them.
use Rattle.std.proofs.Common.{◌≡◌, ℕ, Bool, true, List, ◌++◌, length}
use Rattle.httparse.specs.Ascii.{crlf_bytes}
use Rattle.span_io.specs.Outside.{GrowsFront}
use Rattle.span_io.specs.declared.form.Form.{Form}
use Rattle.http_conn.specs.MediaTypes.{type_of}
use Rattle.http_conn.specs.Posts.{host_line, post_head, post_line}
use Rattle.http_conn.specs.Replies.{answer_text, close_line, length_line, status_line, type_line}
use Rattle.http_conn.proofs.Growth.{grows_at_three, grows_at_two, grows_first, grows_none, grows_past_three, grows_second, joins, joins_three, joins_two}

module _ (status : ℕ) (kind body : List ℕ) (close : Bool) (old : List ℕ) where
  pub at_status : (new : List ℕ) → GrowsFront old new (status_line status) → GrowsFront old new (answer_text status kind body close)
  at_status new h = grows_first old new (status_line status) (type_line kind ++ (length_line (length body) ++ (close_line close ++ (crlf_bytes ++ body)))) h

  module _ (first : List ℕ) (e₁ : first ≡ old ++ status_line status) where
    pub at_type : (new : List ℕ) → GrowsFront first new (type_line kind) → GrowsFront old new (answer_text status kind body close)
    at_type new h = grows_at_two old first new (status_line status) (length_line (length body) ++ (close_line close ++ (crlf_bytes ++ body))) e₁ (type_line kind) h

    module _ (second : List ℕ) (e₂ : second ≡ first ++ type_line kind) where
      pub at_length : (new : List ℕ) → GrowsFront second new (length_line (length body)) → GrowsFront old new (answer_text status kind body close)
      at_length new h = grows_at_three old first new (status_line status) (close_line close ++ (crlf_bytes ++ body)) e₁ second (type_line kind) e₂ (length_line (length body)) h

      module _ (third : List ℕ) (e₃ : third ≡ second ++ length_line (length body)) where
        pub at_close : (new : List ℕ) → GrowsFront third new (close_line close) → GrowsFront old new (answer_text status kind body close)
        at_close new h =
            grows_past_three old first new (status_line status) (close_line close ++ (crlf_bytes ++ body)) e₁ second (type_line kind) e₂ third (length_line (length body)) e₃
            (grows_first third new (close_line close) (crlf_bytes ++ body) h)

        module _ (fourth : List ℕ) (e₄ : fourth ≡ third ++ close_line close) where
          pub all_written : (new : List ℕ) → new ≡ fourth ++ (crlf_bytes ++ body) → new ≡ old ++ answer_text status kind body close
          all_written new h =
              joins_three old first new (status_line status) (close_line close ++ (crlf_bytes ++ body)) e₁ second (type_line kind) e₂ third (length_line (length body)) e₃
              (joins third fourth new (close_line close) (crlf_bytes ++ body) e₄ h)

          pub none_behind : (new : List ℕ) → new ≡ fourth → GrowsFront old new (answer_text status kind body close)
          none_behind new h =
              grows_past_three old first new (status_line status) (close_line close ++ (crlf_bytes ++ body)) e₁ second (type_line kind) e₂ third (length_line (length body)) e₃
              (grows_second third fourth new (close_line close) (crlf_bytes ++ body) e₄ (grows_none fourth new (crlf_bytes ++ body) h))

-- the head of a request that posts a body, likewise
module _ (address : List ℕ) (form : Form) (count : ℕ) (old first : List ℕ) (e₁ : first ≡ old ++ post_line form) (second : List ℕ) (e₂ : second ≡ first ++ host_line address)
    (third : List ℕ) (e₃ : third ≡ second ++ type_line (type_of form)) (fourth : List ℕ) (e₄ : fourth ≡ third ++ length_line count)
    (fifth : List ℕ) (e₅ : fifth ≡ fourth ++ close_line true) where
  pub head_written : (new : List ℕ) → new ≡ fifth ++ crlf_bytes → new ≡ old ++ post_head address form count
  head_written new e =
      joins_three old first new (post_line form) (length_line count ++ (close_line true ++ crlf_bytes)) e₁ second (host_line address) e₂ third (type_line (type_of form)) e₃
      (joins_two third fourth new (length_line count) crlf_bytes e₄ fifth (close_line true) e₅ e)
