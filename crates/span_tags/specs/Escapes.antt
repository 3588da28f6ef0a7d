-- Attributes under keys that a target reserves: each is written under its key behind `otel.attr.`, and so is each whose key is such a one
-- behind copies of it, so that no two come under one key.
--     base         a key without all the copies of the front that it begins with
--     is_touched   whether that is reserved
--     esc          the key under which an attribute of a key is written
--     unesc        the key of the attribute that a tag of a key is
--     escaped, unescaped   the same of attributes, which rise by their new keys
use Rattle.std.specs.Prelude.{◌≡◌, ℕ, zero, suc, Bool, false, ◌&&◌, if◌then◌else◌, List, ◌++◌, map, length, take, drop, codes}
use Rattle.std.specs.Str.{bytes_eq}
use Rattle.trace_model.specs.Attributes.{attrs}
use Rattle.span_tags.specs.TagWords.{Pairs}

-- what is put before a key that is reserved, and before one that would be read back as such
abbrev pub front : List ℕ
front = codes "otel.attr."

-- the key begins with the front, which has 10 bytes
abbrev pub has_front : List ℕ → Bool
has_front key = bytes_eq (take 10 key) front

-- without so many copies at most
abbrev pub base_within : ℕ → List ℕ → List ℕ
base_within zero key = key
base_within (suc copies) key = if has_front key then base_within copies (drop 10 key) else key

-- a key has no more copies than bytes
abbrev pub base : List ℕ → List ℕ
base key = base_within (length key) key

-- each pair under another key
abbrev pub rekeyed : (List ℕ → List ℕ) → Pairs → Pairs
rekeyed other_key pairs = map (λ pair. (other_key pair.0, pair.1)) pairs

module _ (is_reserved : List ℕ → Bool) where
  -- the key is a reserved one, once all copies of the front that it begins with are taken away
  abbrev pub is_touched : List ℕ → Bool
  is_touched key = is_reserved (base key)

  -- the key under which an attribute of this key is written: with one more front where it is touched, else the same
  abbrev pub esc : List ℕ → List ℕ
  esc key = if is_touched key then front ++ key else key

  -- whether one copy is taken from the key of a tag
  abbrev pub is_escaped : List ℕ → Bool
  is_escaped key = has_front key && is_touched key

  -- the key of the attribute that a tag of this key is: without one front where it is touched and begins with one, else the same
  abbrev pub unesc : List ℕ → List ℕ
  unesc key = if is_escaped key then drop 10 key else key

  -- the attributes under the keys that are written, in the order of those keys
  abbrev pub escaped : Pairs → Pairs
  escaped attributes = attrs (rekeyed esc attributes)

  -- the attributes that these tags are, in the order of their keys; of two tags that give one key the last counts
  abbrev pub unescaped : Pairs → Pairs
  unescaped tags = attrs (rekeyed unesc tags)

  -- no key is written as a reserved one, no two as one, and one that isn't touched stays; each is read back, and so is each that is no
  -- reserved one written back
  pub record KeysReadBack : Type 0 where
    pub free : (key : List ℕ) → is_reserved (esc key) ≡ false
    pub apart : (a b : List ℕ) → esc a ≡ esc b → a ≡ b
    pub stays : (key : List ℕ) → is_touched key ≡ false → esc key ≡ key
    pub back : (key : List ℕ) → unesc (esc key) ≡ key
    pub again : (key : List ℕ) → is_reserved key ≡ false → esc (unesc key) ≡ key

-- no key behind the front is reserved
abbrev pub IsApart : (List ℕ → Bool) → Type 0
IsApart is_reserved = (key : List ℕ) → is_reserved (front ++ key) ≡ false
