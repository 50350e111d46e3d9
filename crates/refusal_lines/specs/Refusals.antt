-- The line and the status of each refusal.
use Rattle.std.specs.Prelude.{ℕ, List, ◌++◌, codes, decimal}
use Rattle.text_scan.specs.Fault.{fault_number as scan_number}
use Rattle.asm_fields.specs.declared.fault.AsmFault.{AsmFault}
use Rattle.asm_fields.specs.declared.fault.AsmFault.TheVariants.{Scan}
use Rattle.asm_fields.specs.Fault.{fault_number as asm_number, fault_place as asm_place}
use Rattle.component_file.specs.declared.fault.FileFault.{FileFault}
use Rattle.component_file.specs.Fault.{fault_number, fault_place}
use Rattle.linked_starts.specs.declared.fault.RuleAt.{RuleAt}
use Rattle.linked_starts.specs.FaultText.{rule_at_text}
use Rattle.image_loader.specs.declared.fault.ImageFault.{ImageFault}
use Rattle.image_loader.specs.declared.fault.ImageFault.TheVariants as image
use Rattle.image_loader.specs.Fault.{fault_number as image_number, fault_place as image_place}
use Rattle.proc_grammar.specs.declared.fault.ParseFault.{ParseFault}
use Rattle.proc_grammar.specs.declared.fault.ParseFault.TheVariants as parse
use Rattle.proc_grammar.specs.Fault.{fault_number as parse_number, fault_place as parse_place}
use Rattle.proc_names.specs.Faults.{fault_number as name_number, fault_place as name_place}
use Rattle.token_check.specs.Faults.{fault_number as token_number, fault_place as token_place}
use Rattle.proc_compiler.specs.Fault.{fault_number as compile_number}
use Rattle.proc_compiler.specs.declared.fault.CompileFault.TheVariants as compile
use Rattle.proc_sources.specs.declared.fault.SourceFault.{SourceFault}
use Rattle.proc_sources.specs.declared.fault.SourceFault.TheVariants as source
use Rattle.run_audit.specs.declared.fault.AuditFault.{AuditFault}
use Rattle.run_audit.specs.Fault.{fault_number as audit_number, fault_line}
use Rattle.file_plans.specs.declared.refusal.Refusal.{Refusal}
use Rattle.file_plans.specs.declared.refusal.Refusal.TheVariants as refusal
use Rattle.refusal_lines.specs.declared.status.Status.{Status}
use Rattle.refusal_lines.specs.declared.status.Status.TheVariants as status

-- the part, the fault's number and its place
abbrev pub file_text : ℕ → FileFault → List ℕ
file_text part f =
    codes "file " ++ decimal part ++ codes " " ++ decimal (fault_number f) ++ codes " "
    ++ decimal (fault_place f) ++ codes "\n"

-- the fault's number, of a fault of the tokens after an `s`
abbrev pub asm_number_text : AsmFault → List ℕ
asm_number_text (Scan f) = codes "s" ++ decimal (scan_number f)
asm_number_text f = decimal (asm_number f)

abbrev pub assembly_text : ℕ → AsmFault → List ℕ
assembly_text part f =
    codes "asm " ++ decimal part ++ codes " " ++ asm_number_text f ++ codes " " ++ decimal (asm_place f)
    ++ codes "\n"

-- the fault's number, of a fault of the tokens after an `s`
abbrev pub parse_number_text : ParseFault → List ℕ
parse_number_text (parse.Scan f) = codes "s" ++ decimal (scan_number f)
parse_number_text f = decimal (parse_number f)

abbrev pub source_number_text : SourceFault → List ℕ
source_number_text (source.Text f) = parse_number_text f
source_number_text (source.Name f) = decimal (name_number f)
source_number_text (source.Token f) = decimal (token_number f)
source_number_text (source.Size f) = decimal (compile_number f)
source_number_text source.NoMemory = decimal (compile_number compile.NoMemory)

-- a module's size has no place, nor has want of memory
abbrev pub source_place : SourceFault → ℕ
source_place (source.Text f) = parse_place f
source_place (source.Name f) = name_place f
source_place (source.Token f) = token_place f
source_place (source.Size f) = 0
source_place source.NoMemory = 0

abbrev pub source_text : ℕ → SourceFault → List ℕ
source_text part f =
    codes "source " ++ decimal part ++ codes " " ++ source_number_text f ++ codes " "
    ++ decimal (source_place f) ++ codes "\n"

-- the part, the rule and the place
abbrev pub rule_line : RuleAt → List ℕ
rule_line broken = codes "rule " ++ rule_at_text broken ++ codes "\n"

-- the fault's number and its place in the image
abbrev pub form_text : ImageFault → List ℕ
form_text f = codes "image " ++ decimal (image_number f) ++ codes " " ++ decimal (image_place f) ++ codes "\n"

-- of an image, what its part's file or the rule tells, and else its own form
abbrev pub image_text : ImageFault → List ℕ
image_text (image.File part f) = file_text part f
image_text (image.Rule broken) = rule_line broken
image_text f = form_text f

-- the line of the feed
abbrev pub feed_text : ℕ → List ℕ
feed_text line = codes "feed " ++ decimal line ++ codes "\n"

-- the line of the script
abbrev pub script_text : ℕ → List ℕ
script_text line = codes "script " ++ decimal line ++ codes "\n"

-- the fault's number and its line
abbrev pub audit_text : AuditFault → List ℕ
audit_text f =
    codes "audit " ++ decimal (audit_number f) ++ codes " " ++ decimal (fault_line f) ++ codes "\n"

abbrev pub image_status : ImageFault → Status
image_status (image.Rule broken) = status.RuleBroken
image_status f = status.FileRefused

abbrev pub refusal_text : Refusal → List ℕ
refusal_text refusal.Usage = codes "usage\n"
refusal_text refusal.ReadFault = codes "read fault\n"
refusal_text (refusal.TooLong index) = codes "too long " ++ decimal index ++ codes "\n"
refusal_text (refusal.Assembly part f) = assembly_text part f
refusal_text (refusal.Source part f) = source_text part f
refusal_text (refusal.File part f) = file_text part f
refusal_text (refusal.Rule broken) = rule_line broken
refusal_text (refusal.Image f) = image_text f
refusal_text (refusal.Feed line) = feed_text line
refusal_text (refusal.Script line) = script_text line
refusal_text (refusal.Audit f) = audit_text f

abbrev pub refusal_status : Refusal → Status
refusal_status refusal.Usage = status.Usage
refusal_status refusal.ReadFault = status.ReadFault
refusal_status (refusal.TooLong index) = status.TooLong
refusal_status (refusal.Assembly part f) = status.AsmRefused
refusal_status (refusal.Source part f) = status.SourceRefused
refusal_status (refusal.File part f) = status.FileRefused
refusal_status (refusal.Rule broken) = status.RuleBroken
refusal_status (refusal.Image f) = image_status f
refusal_status (refusal.Feed line) = status.FileRefused
refusal_status (refusal.Script line) = status.FileRefused
refusal_status (refusal.Audit f) = status.AuditRefused
