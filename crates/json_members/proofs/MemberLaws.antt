-- Members of an object, as the code finds them.
use Rattle.std.proofs.Common.{◌≡◌, true, false, Some, None, is_some, refl}
use Rattle.serde_json.specs.Data.{Data, null, boolean, number, string, array, object}
use Rattle.serde_json.specs.Find.{as_null}
use Rattle.json_members.specs.Members.{unless_null}

pub null_is_absent : (d : Data) → is_some (as_null d) ≡ true → None ≡ unless_null (Some d)
null_is_absent null h = refl
null_is_absent (boolean b) h = cc
null_is_absent (number n) h = cc
null_is_absent (string s) h = cc
null_is_absent (array ds) h = cc
null_is_absent (object ms) h = cc

pub other_is_there : (d : Data) → is_some (as_null d) ≡ false → Some d ≡ unless_null (Some d)
other_is_there null h = cc
other_is_there (boolean b) h = refl
other_is_there (number n) h = refl
other_is_there (string s) h = refl
other_is_there (array ds) h = refl
other_is_there (object ms) h = refl

pub ruleset nulls = (null_is_absent, other_is_there)
