-- What is written of a value is read back as this value.
use Rattle.std.proofs.Common.{◌≡◌, ℕ, suc, ◌<◌, ◌≤◌, ◌^◌, List, [], ◌∷◌, Bool, true, false, ◌&&◌, Option, Some, None, option_map, option_and_then, IsUtf8, refl, sym, ap, ◌∙◌, arith, append-nil, Ordering, Less, Equal, Greater}
use Rattle.std.proofs.lemmas.Bool.{and_parts}
use Rattle.std.proofs.lemmas.Cmp.{nat_list_cmp_total}
use Rattle.std.proofs.lemmas.Fmt.{IsAscii-decimal}
use Rattle.std.proofs.lemmas.Str.{IsUtf8-append, IsUtf8-nil, IsUtf8-from_ascii}
use Rattle.std.specs.Cmp.Lexicographic.{slice_cmp}
use Rattle.std.specs.Ordering.{nat_cmp, ordering_reverse}
use Rattle.json.specs.Json as json
use Rattle.json.specs.Lex.{tokens}
use Rattle.json.specs.Tree as tree
use Rattle.json.proofs.Printed.Decimals.{IsNumber-decimal}
use Rattle.json.proofs.Printed.Tokens.{tokens-print}
use Rattle.json.proofs.Printed.Trees.{value-json_tokens, ArePrintable-json_tokens}
use Rattle.json.proofs.Printed.Utf8.{IsUtf8-are_ascii, IsUtf8-quoted, IsUtf8-boolean, are_ascii}
use Rattle.serde_json.specs.Data.{Data, boolean, number, string, array, object, unsigned, Items, no_items, item, Members, no_members, member as has, put}
use Rattle.serde_json.specs.Read.{read, of_json, of_items, of_members, max_depth}
use Rattle.serde_json.specs.Written.{outline, items_outline, members_outline, comma_if, compact_text, items_text, members_text}
use Rattle.serde_json.proofs.Numbers.{number_of-decimal}
use Rattle.serde_json.proofs.Texts.{print-outline}
use Rattle.json_members.specs.Canonical.{MemberRow, members_given, unless_empty}
use Rattle.json_members.proofs.Utf8Laws.{ascii_then}

-- ---- what its text gives back, nested at most n deep

pub record GivesBack (n : ℕ) (d : Data) : Type 0 where
  pub numbers : tree.HasNumbers (outline d)
  pub depth : tree.depth (outline d) ≤ n
  pub same : of_json (outline d) ≡ Some d
  pub utf8 : IsUtf8 (compact_text d)

pub record ItemsGiveBack (n : ℕ) (ds : Items) : Type 0 where
  pub numbers : tree.ItemsHaveNumbers (items_outline ds)
  pub depth : tree.items_depth (items_outline ds) ≤ n
  pub same : of_items (items_outline ds) ≡ Some ds
  pub utf8 : (later : Bool) → IsUtf8 (items_text later ds)

pub gives_deeper : (n m : ℕ) (d : Data) → n ≤ m → GivesBack n d → GivesBack m d
gives_deeper n m d more h = record { numbers = h.numbers; depth = omega (arith, h.depth); same = h.same; utf8 = h.utf8 }

pub reads_back : (d : Data) → GivesBack max_depth d → read (compact_text d) ≡ Some d
reads_back d h =
    let spelled : tokens (compact_text d) ≡ tree.json_tokens (outline d) = ap tokens (sym (print-outline d)) ∙ tokens-print _ (ArePrintable-json_tokens (outline d) h.numbers) in
    ap (λ o. option_and_then of_json (option_and_then (λ p. json.if_last p.0 p.1) o)) (ap (json.value max_depth) (spelled ∙ sym (append-nil _)) ∙ value-json_tokens (outline d) max_depth [] h.depth) ∙ h.same

pub string_back : (n : ℕ) (text : List ℕ) → IsUtf8 text → GivesBack n (string text)
string_back n text h = record { numbers = tt; depth = omega arith; same = refl; utf8 = IsUtf8-quoted text h }

pub count_back : (n count : ℕ) → count < 2 ^ 64 → GivesBack n (number (unsigned count))
count_back n count h = record {
  numbers = IsNumber-decimal count h;
  depth = omega arith;
  same = ap (option_map number) (number_of-decimal count h);
  utf8 = IsUtf8-from_ascii _ (IsAscii-decimal count h);
}

pub truth_back : (n : ℕ) (truth : Bool) → GivesBack n (boolean truth)
truth_back n truth = record { numbers = tt; depth = omega arith; same = refl; utf8 = IsUtf8-boolean truth }

-- ---- arrays

comma_is_utf8 : (later : Bool) → IsUtf8 (comma_if later)
comma_is_utf8 true = IsUtf8-are_ascii _ refl
comma_is_utf8 false = IsUtf8-nil

pub no_items_back : (n : ℕ) → ItemsGiveBack n no_items
no_items_back n = record { numbers = tt; depth = omega arith; same = refl; utf8 = λ later. IsUtf8-are_ascii _ refl }

pub item_back : (n : ℕ) (d : Data) (ds : Items) → GivesBack n d → ItemsGiveBack n ds → ItemsGiveBack n (item d ds)
item_back n d ds h k = record {
  numbers = (h.numbers, k.numbers);
  depth = omega (arith, h.depth, k.depth);
  same = ap (option_and_then (λ e. option_map (item e) (of_items (items_outline ds)))) h.same ∙ ap (option_map (item d)) k.same;
  utf8 = λ later. IsUtf8-append _ _ (comma_is_utf8 later) (IsUtf8-append _ _ h.utf8 (k.utf8 true));
}

pub array_back : (n : ℕ) (ds : Items) → ItemsGiveBack n ds → GivesBack (suc n) (array ds)
array_back n ds h = record {
  numbers = h.numbers;
  depth = omega (arith, h.depth);
  same = ap (option_map array) h.same;
  utf8 = ascii_then 91 _ (omega arith) (h.utf8 false);
}

-- ---- objects, whose keys rise

-- the key is behind each of these
abbrev Behind : List ℕ → Members → Type 0
Behind key no_members = Unit {0}
Behind key (has k d ms) = (slice_cmp nat_cmp key k ≡ Greater) × Behind key ms

-- each of the others is behind each of these
abbrev AllBehind : Members → Members → Type 0
AllBehind ms no_members = Unit {0}
AllBehind ms (has k d others) = Behind k ms × AllBehind ms others

-- each of these is behind the key
abbrev pub Follow : List ℕ → Members → Type 0
Follow key no_members = Unit {0}
Follow key (has k d ms) = (slice_cmp nat_cmp k key ≡ Greater) × Follow key ms

abbrev push : Members → List ℕ → Data → Members
push no_members key d = has key d no_members
push (has k e ms) key d = has k e (push ms key d)

abbrev joined : Members → Members → Members
joined no_members others = others
joined (has k d ms) others = has k d (joined ms others)

put_last : (key : List ℕ) (d : Data) (ms : Members) → Behind key ms → put key d ms ≡ push ms key d
put_last key d no_members h = refl
put_last key d (has k e ms) h = let above = h.0 in rw above (ap (has k e) (put_last key d ms h.1))

push_joined : (ms : Members) (key : List ℕ) (d : Data) (others : Members) → joined (push ms key d) others ≡ joined ms (has key d others)
push_joined no_members key d others = refl
push_joined (has k e ms) key d others = ap (has k e) (push_joined ms key d others)

behind_push : (key k : List ℕ) (d : Data) (ms : Members) → Behind key ms → slice_cmp nat_cmp key k ≡ Greater → Behind key (push ms k d)
behind_push key k d no_members h last = (last, tt)
behind_push key k d (has l e ms) h last = (h.0, behind_push key k d ms h.1 last)

all_behind_push : (key : List ℕ) (d : Data) (ms others : Members) → AllBehind ms others → Follow key others → AllBehind (push ms key d) others
all_behind_push key d ms no_members h last = tt
all_behind_push key d ms (has k e others) h last = (behind_push k key d ms h.0 last.0, all_behind_push key d ms others h.1 last.1)

behind_none : (others : Members) → AllBehind no_members others
behind_none no_members = tt
behind_none (has k d others) = (tt, behind_none others)

pub record MembersGiveBack (n : ℕ) (ms : Members) : Type 0 where
  pub numbers : tree.MembersHaveNumbers (members_outline ms)
  pub depth : tree.members_depth (members_outline ms) ≤ n
  pub same : (before : Members) → AllBehind before ms → of_members (members_outline ms) before ≡ Some (joined before ms)
  pub utf8 : (later : Bool) → IsUtf8 (members_text later ms)

joined_none : (ms : Members) → joined ms no_members ≡ ms
joined_none no_members = refl
joined_none (has k d ms) = ap (has k d) (joined_none ms)

pub no_members_back : (n : ℕ) → MembersGiveBack n no_members
no_members_back n = record { numbers = tt; depth = omega arith; same = λ before h. ap Some (sym (joined_none before)); utf8 = λ later. IsUtf8-are_ascii _ refl }

pub member_back : (n : ℕ) (key : List ℕ) (d : Data) (ms : Members) → IsUtf8 key → Follow key ms → GivesBack n d → MembersGiveBack n ms → MembersGiveBack n (has key d ms)
member_back n key d ms text first h k = record {
  numbers = (h.numbers, k.numbers);
  depth = omega (arith, h.depth, k.depth);
  same = λ before behind. ap (option_and_then (λ e. of_members (members_outline ms) (put key e before))) h.same ∙ ap (of_members (members_outline ms)) (put_last key d before behind.0)
      ∙ k.same (push before key d) (all_behind_push key d before ms behind.1 first) ∙ ap Some (push_joined before key d ms);
  utf8 = λ later. IsUtf8-append _ _ (comma_is_utf8 later) (IsUtf8-append _ _ (IsUtf8-quoted key text) (ascii_then 58 _ (omega arith) (IsUtf8-append _ _ h.utf8 (k.utf8 true))));
}

pub object_back : (n : ℕ) (ms : Members) → MembersGiveBack n ms → GivesBack (suc n) (object ms)
object_back n ms h = record {
  numbers = h.numbers;
  depth = omega (arith, h.depth);
  same = ap (option_map object) (h.same no_members (behind_none ms));
  utf8 = ascii_then 123 _ (omega arith) (h.utf8 false);
}

-- ---- members that may be left out, in the order of their names

abbrev pub GivenGivesBack : ℕ → Option Data → Type 0
GivenGivesBack n None = Unit {0}
GivenGivesBack n (Some d) = GivesBack n d

abbrev pub RowsGiveBack : ℕ → List MemberRow → Type 0
RowsGiveBack n [] = Unit {0}
RowsGiveBack n (row ∷ rows) = GivenGivesBack n row.1 × RowsGiveBack n rows

abbrev is_greater : Ordering → Bool
is_greater Less = false
is_greater Equal = false
is_greater Greater = true

greater : (o : Ordering) → is_greater o ≡ true → o ≡ Greater
greater Less h = cc
greater Equal h = cc
greater Greater h = refl

abbrev rows_follow : List ℕ → List MemberRow → Bool
rows_follow key [] = true
rows_follow key (row ∷ rows) = is_greater (slice_cmp nat_cmp row.0 key) && rows_follow key rows

-- the names are ASCII and rise
abbrev pub names_rise : List MemberRow → Bool
names_rise [] = true
names_rise (row ∷ rows) = are_ascii row.0 && (rows_follow row.0 rows && names_rise rows)

given_follow : (key : List ℕ) (rows : List MemberRow) → rows_follow key rows ≡ true → Follow key (members_given rows)
given_follow key [] h = tt
given_follow key ((name, None) ∷ rows) h = given_follow key rows (and_parts _ _ h).1
given_follow key ((name, Some d) ∷ rows) h = let parts = and_parts _ _ h in (greater _ parts.0, given_follow key rows parts.1)

pub rows_back : (n : ℕ) (rows : List MemberRow) → names_rise rows ≡ true → RowsGiveBack n rows → MembersGiveBack n (members_given rows)
rows_back n [] rise h = no_members_back n
rows_back n ((name, None) ∷ rows) rise h = rows_back n rows (and_parts _ _ (and_parts _ _ rise).1).1 h.1
rows_back n ((name, Some d) ∷ rows) rise h =
    let first = and_parts _ _ rise in
    let more = and_parts _ _ first.1 in
    member_back n name d (members_given rows) (IsUtf8-are_ascii name first.0) (given_follow name rows more.0) h.0 (rows_back n rows more.1 h.1)

pub unless_empty_back : (n : ℕ) (ms : Members) → MembersGiveBack n ms → GivenGivesBack (suc n) (unless_empty ms)
unless_empty_back n no_members h = tt
unless_empty_back n (has key d ms) h = object_back n (has key d ms) h

-- one text comes behind the other where the other comes before it
pub behind_before : (a b : List ℕ) → slice_cmp nat_cmp a b ≡ Less → slice_cmp nat_cmp b a ≡ Greater
behind_before a b h = nat_list_cmp_total.antisymm b a ∙ ap ordering_reverse h
