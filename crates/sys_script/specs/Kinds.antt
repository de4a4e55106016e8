-- The name of each kind of refusal (profile).
use Rattle.std.specs.Prelude.{ℕ, List, codes}
use Rattle.sys_script.specs.declared.event.ScriptKind.{ScriptKind}
use Rattle.sys_script.specs.declared.event.ScriptKind.TheVariants.{BadRound, BadName, BadEvent, BadText, RoundFalls}

abbrev pub kind_text : ScriptKind → List ℕ
kind_text BadRound = codes "BadRound"
kind_text BadName = codes "BadName"
kind_text BadEvent = codes "BadEvent"
kind_text BadText = codes "BadText"
kind_text RoundFalls = codes "RoundFalls"
