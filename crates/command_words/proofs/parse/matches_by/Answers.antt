use Rattle.std.proofs.Common.{◌≡◌, ◌∙◌, ap, refl, List, [], ◌∷◌, Some, true, None, rules, sym, inl, inr}
use Rattle.std.proofs.lemmas.Bool.{and_parts}
use Rattle.clap.specs.Words.{App, Row, app_of, is_simple, matches_of}
use Rattle.clap.specs.Simple.{built}
use Rattle.clap.specs.Faults.{is_free_app}
use Rattle.clap.specs.Kinds.{IsAmong, Kinds}
use Rattle.clap.specs.declared.error.kind.ErrorKind.{ErrorKind}
use Rattle.command_words.specs.Rows.{unless_faults}
use Rattle.command_words.specs.Texts.{texts}
use Rattle.command_words.proofs.parse.matches_by.Goals as goal

faulted : (k : ErrorKind) (kinds : Kinds) (rows : List Row) → IsAmong k kinds → None
    ≡ unless_faults kinds rows
faulted k [] rows h = absurd h
faulted k (x ∷ xs) rows h = refl

pub returns-in-Ok : goal.returns-in-Ok
returns-in-Ok c =
    let command : App = app_of c.args.command in
    let simple : is_simple command ≡ true =
    (and_parts (is_simple command) (is_free_app (built command)) c.requires).0 in
    ap Some (c.in-Ok.ensures.matches simple).0
    ∙ ap (λ (k : Kinds). unless_faults k (matches_of command (texts c.args.words.now)))
    (sym (c.in-Ok.ensures.kinds c.requires))

pub returns : goal.returns
returns c = elim (c.in-Err.ensures.kinds c.requires) [
  | inl memory ↦ absurd (search rules)
  | inr among ↦ faulted _ _ _ among
]
