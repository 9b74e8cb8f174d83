-- Members of serde_json's objects.
use Rattle.std.specs.Prelude.{◌≡◌, ℕ, List, Option, Some, None}
use Rattle.serde_json.specs.Data.{Data, put, Members as DataMembers}
use Rattle.acceptance.specs.Json.{Json, Members}
use Rattle.acceptance.specs.Data.{members_data}
use Rattle.schema_core.specs.Form.{put_fields}

-- a member that may be left out
abbrev pub put_given_data : List ℕ → Option Data → DataMembers → DataMembers
put_given_data k None ms = ms
put_given_data k (Some d) ms = put k d ms

-- the fields that are given are put: members that stood for ms stand for ms with these
abbrev pub Puts : List (List ℕ × Option Json) → DataMembers → DataMembers → Type 0
Puts fs old new = (ms : Members) → old ≡ members_data ms → new ≡ members_data (put_fields fs ms)
