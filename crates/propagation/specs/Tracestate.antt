-- `tracestate` (W3C Trace Context Level 1, section 3.3): members, each a key "=" value, separated by commas.
use Rattle.std.specs.Prelude.{◌≡◌, ◌≢◌, ◌⊎◌, ◌≤◌, ℕ, List, [], ◌∷◌, ◌++◌, length, reverse, map, filter_map, All, AllPairs, Option, Some, None, ⊤}
use Rattle.std.specs.Int.{IsInRange}
use Rattle.std.specs.List.{join_with_byte}
use Rattle.propagation.specs.Fronts.{BeginsWithout}

-- b','
abbrev pub member_comma : ℕ
member_comma = 44

-- b'='
abbrev pub equals : ℕ
equals = 61

-- b'@'
abbrev pub at_sign : ℕ
at_sign = 64

-- optional white space: a space or a tab
abbrev pub IsBlank : ℕ → Type 0
IsBlank c = (c ≡ 32) ⊎ (c ≡ 9)

-- "lcalpha"
abbrev pub IsLowerLetter : ℕ → Type 0
IsLowerLetter c = IsInRange 97 122 c

-- "DIGIT"
abbrev pub IsDigit : ℕ → Type 0
IsDigit c = IsInRange 48 57 c

-- lcalpha, DIGIT, "_", "-", "*" and "/"
abbrev pub IsKeyByte : ℕ → Type 0
IsKeyByte c = IsLowerLetter c ⊎ (IsDigit c ⊎ ((c ≡ 95) ⊎ ((c ≡ 45) ⊎ ((c ≡ 42) ⊎ (c ≡ 47)))))

-- a first character of a kind, and so many characters of keys behind it, or fewer
abbrev pub IsWord : (ℕ → Type 0) → ℕ → List ℕ → Type 0
IsWord First most [] = ⊥
IsWord First most (c ∷ word) = First c × All IsKeyByte word × (length word ≤ most)

-- a tenant may begin with a digit
abbrev pub IsTenantStart : ℕ → Type 0
IsTenantStart c = IsLowerLetter c ⊎ IsDigit c

-- a word, or a tenant "@" system
abbrev pub IsStateKey : List ℕ → Type 0
IsStateKey key =
    IsWord IsLowerLetter 255 key
    ⊎ ((tenant system : List ℕ) × IsWord IsTenantStart 240 tenant × IsWord IsLowerLetter 13 system × (key ≡ tenant ++ at_sign ∷ system))

-- "chr": a space or a visible character but "," and "="
abbrev pub IsStateByte : ℕ → Type 0
IsStateByte c = IsInRange 0x20 0x7E c × (c ≢ member_comma) × (c ≢ equals)

-- 1 to 256 of these, the last of which is no space
abbrev pub IsStateValue : List ℕ → Type 0
IsStateValue value =
    (1 ≤ length value) × (length value ≤ 256) × All IsStateByte value × BeginsWithout (λ c. c ≡ 32) (reverse value)

-- "list-member"
pub record StateMember : Type 0 where
  pub key : List ℕ
  pub value : List ℕ

-- the key and the value of a member are of their forms
pub record IsStateMember (m : StateMember) : Type 0 where
  pub key : IsStateKey m.key
  pub value : IsStateValue m.value

-- the text of a member: its key, "=" and its value
abbrev pub state_member_text : StateMember → List ℕ
state_member_text m = m.key ++ equals ∷ m.value

-- what stands between two commas: a member, or nothing, and blanks round it
pub record StateEntry : Type 0 where
  pub before : List ℕ
  pub member : Option StateMember
  pub after : List ℕ

-- the text of the member between two commas, empty where there is none
abbrev pub listed_member_text : Option StateMember → List ℕ
listed_member_text None = []
listed_member_text (Some m) = state_member_text m

-- all that stands between two commas, with its blanks
abbrev pub state_entry_text : StateEntry → List ℕ
state_entry_text l = l.before ++ (listed_member_text l.member ++ l.after)

-- there is no member, which the standard allows ("list-member" may be white space alone), or it is of the form
abbrev pub IsListedMember : Option StateMember → Type 0
IsListedMember None = ⊤
IsListedMember (Some m) = IsStateMember m

-- spaces and tabs alone stand round the member, which is of the form if there is one
pub record IsStateEntry (l : StateEntry) : Type 0 where
  pub before : All IsBlank l.before
  pub member : IsListedMember l.member
  pub after : All IsBlank l.after

-- at most 32 members, whose keys are distinct
pub record AreStateMembers (members : List StateMember) : Type 0 where
  pub few : length members ≤ 32
  pub distinct : AllPairs (λ a b. a.key ≢ b.key) members

-- the text lists these members
pub record ListsMembers (text : List ℕ) (members : List StateMember) : Type 0 where
  pub entries : List StateEntry
  pub formed : All IsStateEntry entries
  pub whole : text ≡ join_with_byte member_comma (map state_entry_text entries)
  pub members_are : members ≡ filter_map (λ l. l.member) entries

-- the canonical text: the members joined by commas
abbrev pub tracestate_text : List StateMember → List ℕ
tracestate_text members = join_with_byte member_comma (map state_member_text members)

-- the value is of the form, and this is its canonical text
abbrev pub ReadsTracestate : List ℕ → List ℕ → Type 0
ReadsTracestate value state =
    (members : List StateMember) × ListsMembers value members × AreStateMembers members × (state ≡ tracestate_text members)
