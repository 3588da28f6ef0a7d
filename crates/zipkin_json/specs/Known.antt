-- The members that a form of Zipkin v2 knows, as its tables name them. `tags` is a map: all its members are known.
use Rattle.std.specs.Prelude.{List, [], ◌∷◌, codes}
use Rattle.json_members.specs.Agreement.{Agreement, same, KnownMember, objects_agree, arrays_agree}

-- the members of `Endpoint`, each of which agrees where it is the same
abbrev pub endpoint_known : List KnownMember
endpoint_known = (codes "serviceName", same) ∷ (codes "ipv4", same) ∷ (codes "ipv6", same) ∷ (codes "port", same) ∷ []

-- the members of `Annotation`, each of which agrees where it is the same
abbrev pub annotation_known : List KnownMember
annotation_known = (codes "timestamp", same) ∷ (codes "value", same) ∷ []

-- the members of `Span`: endpoints and annotations agree by the members that are known of them, and each other one where it is
-- the same
abbrev pub span_known : List KnownMember
span_known = (codes "traceId", same) ∷ (codes "id", same) ∷ (codes "parentId", same) ∷ (codes "name", same) ∷ (codes "kind", same)
    ∷ (codes "timestamp", same) ∷ (codes "duration", same) ∷ (codes "debug", same) ∷ (codes "shared", same)
    ∷ (codes "localEndpoint", objects_agree endpoint_known) ∷ (codes "remoteEndpoint", objects_agree endpoint_known)
    ∷ (codes "annotations", arrays_agree (objects_agree annotation_known)) ∷ (codes "tags", same) ∷ []

-- the whole text: arrays of spans
abbrev pub spans_agree : Agreement
spans_agree v w = arrays_agree (objects_agree span_known) v w
