use Rattle.otlp_json.proofs.SingleMembers.{none_stands, other_absent, text_tells, truth_tells, integer_tells, double_tells, list_tells, map_tells, bytes_tells}
use Rattle.otlp_json.proofs.reading.standing.part_named.Goals as goal

pub returns-in-stringValue : goal.returns-in-stringValue
returns-in-stringValue c = λ d there. rw c.in-stringValue.is (text_tells d there)

pub returns-in-intValue : goal.returns-in-intValue
returns-in-intValue c = λ d there. rw c.in-intValue.is (integer_tells d there)

pub returns-in-boolValue : goal.returns-in-boolValue
returns-in-boolValue c = λ d there. rw c.in-boolValue.is (truth_tells d there)

pub returns-in-arrayValue : goal.returns-in-arrayValue
returns-in-arrayValue c = λ d there. rw c.in-arrayValue.is (list_tells d there)

pub returns-in-kvlistValue : goal.returns-in-kvlistValue
returns-in-kvlistValue c = λ d there. rw c.in-kvlistValue.is (map_tells d there)

pub returns-in-bytesValue : goal.returns-in-bytesValue
returns-in-bytesValue c = λ d there. rw c.in-bytesValue.is (bytes_tells d there)

pub returns-in-doubleValue : goal.returns-in-doubleValue
returns-in-doubleValue c = λ d there. rw c.in-doubleValue.is (double_tells d there)

pub returns-in_default : goal.returns-in_default
returns-in_default c = λ d there. let absent = other_absent c.args.name.now d in
    none_stands _ (absent _ c.in_default.not-stringValue) (absent _ c.in_default.not-boolValue) (absent _ c.in_default.not-intValue)
    (absent _ c.in_default.not-doubleValue) (absent _ c.in_default.not-arrayValue) (absent _ c.in_default.not-kvlistValue) (absent _ c.in_default.not-bytesValue)
