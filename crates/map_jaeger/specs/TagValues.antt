-- Tags and attributes (jaeger.thrift `Tag`, `TagType`; OpenTelemetry exporter page for Jaeger): each kind of value has its type of tag, and
-- lists, maps and no value are told as texts.
use Rattle.std.specs.Prelude.{ℕ, List, []}
use Rattle.jaeger_model.specs.declared.tag.Tag.{Tag}
use Rattle.jaeger_model.specs.declared.tag.TagValue.{TagValue}
use Rattle.jaeger_model.specs.declared.tag.TagValue.TheVariants as tags
use Rattle.trace_model.specs.ValueTexts.{value_text}
use Rattle.trace_model.specs.declared.value.Value.{Value, Text, Truth, Number, Eight, Bytes, List', Map', Nothing}

-- ---- reading

-- a tag's value by its type (jaeger.thrift, `TagType`): STRING, DOUBLE as its eight bytes, BOOL, LONG or BINARY
abbrev pub value_of : TagValue → Value
value_of (tags.Text text) = Text text
value_of (tags.Eight double) = Eight double
value_of (tags.Truth truth) = Truth truth
value_of (tags.Number number) = Number number
value_of (tags.Bytes bytes) = Bytes bytes

-- a tag as an attribute (jaeger.thrift, struct Tag)
abbrev pub attribute_of : Tag → List ℕ × Value
attribute_of tag = (tag.key, value_of tag.value)

-- ---- writing

-- a value as that of a tag: a list or map is a STRING of its JSON, no value an empty STRING, and others keep their type
abbrev pub tag_value : Value → TagValue
tag_value (Text text) = tags.Text text
tag_value (Eight double) = tags.Eight double
tag_value (Truth truth) = tags.Truth truth
tag_value (Number number) = tags.Number number
tag_value (Bytes bytes) = tags.Bytes bytes
tag_value (List' shape members) = tags.Text (value_text (List' shape members))
tag_value (Map' shape members) = tags.Text (value_text (Map' shape members))
tag_value Nothing = tags.Text []

-- an attribute as a tag, under the same key (jaeger.thrift, struct Tag)
abbrev pub tag_of : List ℕ × Value → Tag
tag_of attribute = record { key = attribute.0; value = tag_value attribute.1 }

-- ---- what is left of a value: lists, maps and no value become their texts

-- what is read back of a value that was written as a tag
abbrev pub normal_value : Value → Value
normal_value (List' shape members) = Text (value_text (List' shape members))
normal_value (Map' shape members) = Text (value_text (Map' shape members))
normal_value Nothing = Text []
normal_value value = value

-- the same of an attribute, whose key stays
abbrev pub normal_attribute : List ℕ × Value → List ℕ × Value
normal_attribute attribute = (attribute.0, normal_value attribute.1)
