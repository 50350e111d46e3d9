-- A line of an event is read of its own text alone.
use Rattle.std.proofs.Common.{◌≡◌, ℕ, ◌≤◌, Bool, true, false, List, [], ◌∷◌, ◌++◌, Some, refl, sym, ap, ◌∙◌}
use Rattle.std.proofs.Common.{arith}
use Rattle.std.specs.Prelude.{codes, decimal, map, ◌||◌}
use Rattle.std.specs.Str.{bytes_eq}
use Rattle.cap_words.specs.declared.Word.{Word}
use Rattle.cap_words.specs.Names.{is_name}
use Rattle.cap_words.specs.Text.{word_text_of}
use Rattle.run_lines.specs.Lines.{Line, call, ret, enter, pass, leave}
use Rattle.source_events.specs.Forms.{pair_text, is_pair}
use Rattle.run_lines.specs.Fits.{PlaceFits, AllOf}
use Rattle.headline.specs.OpenCalls.{LineTold}
use Rattle.line_fields.specs.Options.{where_true}
use Rattle.line_fields.specs.Numbers.{natural_in}
use Rattle.line_fields.specs.Words.{is_word, HasText}
use Rattle.line_fields.specs.Forms.{back_in, handed_in}
use Rattle.line_fields.specs.Fields.{meant, tested}
use Rattle.line_fields.proofs.Offers.{chosen, Fields, goes, same_read, unless_is}
use Rattle.audited_runs.proofs.Offers.{spaced, body, line_text_is}
use Rattle.run_audit.specs.declared.line.Line.{Line as AuditLine}
use Rattle.run_audit.specs.declared.line.Line.TheVariants.{Call, Ret, Pass}
use Rattle.run_audit.specs.Told.{ToldSeen}
use Rattle.run_audit.specs.Lines.{is_direction, registers, told, told_with, words_left}
use Rattle.run_audit.specs.Lines.{call as call_in, ret as ret_in, entered, passed, left}
use Rattle.audited_runs.specs.Audited.{told_seen, line_seen}
use Rattle.audited_runs.specs.Spelling.{LineHasText, LineIsSpelled}
use Rattle.audited_runs.proofs.Spelled.{dir_text, call_body, ret_body}
use Rattle.audited_runs.proofs.Spelled.{enter_body, regroup_pass, regroup_leave}
use Rattle.audited_runs.proofs.Taken.{name_taken, number_taken, word_taken, direction_taken, mark_taken}
use Rattle.audited_runs.proofs.Taken.{back_taken, pair_taken, args_taken, and_then, words_taken}

-- after a line's name, the fields are those of a line
pub record Spells (name : List ℕ) (fs : Fields) (l : AuditLine) : Type 0 where
  pub line : Line
  pub is : body line ≡ name ++ spaced fs
  pub seen : line_seen line ≡ l
  pub has_text : LineHasText line

-- ---- call and ret lines

natural_taken : (ts : Fields) (n : ℕ) (rest : Fields) → meant natural_in ts ≡ Some (n, rest)
    → (n ≤ 4294967295) × (ts ≡ decimal n ∷ rest)
natural_taken ts n rest = number_taken 4294967295 ts n rest (omega arith)

record ToldTaken (is_call : Bool) (ts : Fields) (t : ToldSeen) (rest : Fields) : Type 0 where
  inward : Bool
  line : LineTold
  before : Fields
  arg : List ℕ
  is : ts ≡ dir_text inward ∷ line.part ∷ decimal line.site ∷ decimal line.base ∷ decimal line.last ∷ before
  args : registers is_call before ≡ Some (arg, codes ":" ∷ map word_text_of line.words)
  seen : told_seen line ≡ t
  fits : PlaceFits line.part line.site line.base line.last
  texts : AllOf HasText line.words
  none : rest ≡ []

-- behind a part, a site of it and the first address of a range
record EndTaken (is_call : Bool) (part : List ℕ) (site base : ℕ) (ts : Fields) (t : ToldSeen) (rest : Fields)
    : Type 0 where
  last : ℕ
  words : List Word
  before : Fields
  arg : List ℕ
  is : ts ≡ decimal last ∷ before
  args : registers is_call before ≡ Some (arg, codes ":" ∷ map word_text_of words)
  seen : told_seen (record { part = part; site = site; base = base; last = last; words = words }) ≡ t
  within : last ≤ 4294967295
  texts : AllOf HasText words
  none : rest ≡ []

end_taken : (is_call : Bool) (part : List ℕ) (site base : ℕ) (ts : Fields) (t : ToldSeen) (rest : Fields)
    → told_with is_call part site base ts ≡ Some (t, rest) → EndTaken is_call part site base ts t rest
unfolding told_with
end_taken is_call part site base ts t rest h =
    let y : ToldSeen × Fields = (t, rest) in
    let g0 = goes (meant natural_in ts) _ y h in
    let g1 = goes (registers is_call g0.rest) _ y g0.next in
    let g2 = goes (tested (bytes_eq (codes ":")) g1.rest) _ y g1.next in
    let g3 = goes (words_left g2.rest) _ y g2.next in
    let l = natural_taken ts g0.value g0.rest g0.first in
    let k = mark_taken (codes ":") g1.rest g2.value g2.rest g2.first in
    let w = words_taken g2.rest g3.value g3.rest g3.first in
    let both = same_read g3.next in
    record {
      last = g0.value;
      words = w.words;
      before = g0.rest;
      arg = g1.value;
      is = l.1;
      args = g1.first ∙ ap (λ us. Some (g1.value, us)) (k ∙ ap (λ us. codes ":" ∷ us) w.is);
      seen = ap (λ ws. record { part = part; site = site; base = base; last = g0.value; words = ws })
          (sym (w.same ∙ w.is))
          ∙ both.0;
      within = l.0;
      texts = w.texts;
      none = sym both.1 ∙ w.none;
    }

told_taken : (is_call : Bool) (ts : Fields) (t : ToldSeen) (rest : Fields) → told is_call ts ≡ Some (t, rest)
    → ToldTaken is_call ts t rest
unfolding told
told_taken is_call ts t rest h =
    let y : ToldSeen × Fields = (t, rest) in
    let g0 = goes (tested is_direction ts) _ y h in
    let g1 = goes (tested is_name g0.rest) _ y g0.next in
    let g2 = goes (meant natural_in g1.rest) _ y g1.next in
    let g3 = goes (meant natural_in g2.rest) _ y g2.next in
    let d = direction_taken ts g0.value g0.rest g0.first in
    let p = name_taken g0.rest g1.value g1.rest g1.first in
    let s = natural_taken g1.rest g2.value g2.rest g2.first in
    let b = natural_taken g2.rest g3.value g3.rest g3.first in
    let e = end_taken is_call g1.value g2.value g3.value g3.rest t rest g3.next in
    record {
      inward = d.0;
      line = record { part = g1.value; site = g2.value; base = g3.value; last = e.last; words = e.words };
      before = e.before;
      arg = e.arg;
      is = and_then d.1 (and_then p.1 (and_then s.1 (and_then b.1 e.is)));
      args = e.args;
      seen = e.seen;
      fits = (p.0, s.0, b.0, e.within);
      texts = e.texts;
      none = e.none;
    }

pub call_spelled : (fs : Fields) (l : AuditLine) → call_in fs ≡ Some (l, []) → Spells (codes "call") fs l
unfolding call_in
call_spelled fs l h =
    let g = goes (told true fs) _ (l, []) h in
    let t = told_taken true fs g.value g.rest g.first in
    let m = t.line in
    let a = args_taken t.before t.arg (codes ":" ∷ map word_text_of m.words) t.args in
    let is = t.is
    ∙ ap (λ us. dir_text t.inward ∷ m.part ∷ decimal m.site ∷ decimal m.base ∷ decimal m.last ∷ us) a.is in
    record {
      line = call t.inward m.part m.site m.base m.last a.args m.words;
      is = call_body t.inward m.part m.site m.base m.last a.args m.words
          ∙ ap (λ us. codes "call" ++ spaced us) (sym is);
      seen = ap Call t.seen ∙ (same_read g.next).0;
      has_text = (t.fits, a.texts, t.texts);
    }

pub ret_spelled : (fs : Fields) (l : AuditLine) → ret_in fs ≡ Some (l, []) → Spells (codes "ret") fs l
unfolding ret_in
ret_spelled fs l h =
    let g = goes (told false fs) _ (l, []) h in
    let t = told_taken false fs g.value g.rest g.first in
    let m = t.line in
    let a = word_taken t.before t.arg (codes ":" ∷ map word_text_of m.words) t.args in
    let is = t.is
    ∙ ap (λ us. dir_text t.inward ∷ m.part ∷ decimal m.site ∷ decimal m.base ∷ decimal m.last ∷ us) a.2 in
    record {
      line = ret t.inward m.part m.site m.base m.last a.0 m.words;
      is = ret_body t.inward m.part m.site m.base m.last a.0 m.words
          ∙ ap (λ us. codes "ret" ++ spaced us) (sym is);
      seen = ap Ret t.seen ∙ (same_read g.next).0;
      has_text = (t.fits, a.1, t.texts);
    }

-- ---- the other lines

pub enter_spelled : (fs : Fields) (l : AuditLine) → entered fs ≡ Some (l, []) → Spells (codes "enter") fs l
unfolding entered
enter_spelled fs l h =
    let y : AuditLine × Fields = (l, []) in
    let g0 = goes (tested is_name fs) _ y h in
    let g1 = goes (tested is_name g0.rest) _ y g0.next in
    let g2 = goes (tested is_word g1.rest) _ y g1.next in
    let g3 = goes (registers true g2.rest) _ y g2.next in
    let g4 = goes (meant back_in g3.rest) _ y g3.next in
    let p = name_taken fs g0.value g0.rest g0.first in
    let e = name_taken g0.rest g1.value g1.rest g1.first in
    let s = word_taken g1.rest g2.value g2.rest g2.first in
    let a = args_taken g2.rest g3.value g3.rest g3.first in
    let b = back_taken g3.rest g4.value g4.rest g4.first in
    let both = same_read g4.next in
    let x = a.args in
    let args = a.is
    ∙ ap (λ us. word_text_of x.a0 ∷ word_text_of x.a1 ∷ word_text_of x.a2 ∷ word_text_of x.a3 ∷ us)
    (and_then b.1 both.1) in
    let is = and_then p.1 (and_then e.1 (and_then s.2 args)) in
    record {
      line = enter g0.value g1.value s.0 x g4.value;
      is = enter_body g0.value g1.value s.0 x g4.value ∙ ap (λ us. codes "enter" ++ spaced us) (sym is);
      seen = both.0;
      has_text = (p.0, e.0, s.1, a.texts, b.0);
    }

some_pair : (a b c : Bool) → (a || b || c) ≡ true → (a || (b || c)) ≡ true
some_pair true b c h = refl
some_pair false true c h = refl
some_pair false false c h = h

pub pass_spelled : (fs : Fields) (l : AuditLine) → passed fs ≡ Some (l, []) → Spells (codes "pass") fs l
unfolding passed
pass_spelled fs l h =
    let y : AuditLine × Fields = (l, []) in
    let g0 = goes (meant handed_in fs) _ y h in
    let g1 = goes (meant handed_in g0.rest) _ y g0.next in
    let g2 = goes (meant handed_in g1.rest) _ y g1.next in
    let p0 = pair_taken fs g0.value g0.rest g0.first in
    let p1 = pair_taken g0.rest g1.value g1.rest g1.first in
    let p2 = pair_taken g1.rest g2.value g2.rest g2.first in
    let some = is_pair g0.value || is_pair g1.value || is_pair g2.value in
    let u = unless_is (where_true some Pass) g2.rest l [] g2.next in
    let c = chosen some Pass l u.0 in
    let is = and_then p0.1 (and_then p1.1 (and_then p2.1 u.1)) in
    record {
      line = pass g0.value g1.value g2.value;
      is = regroup_pass (codes "pass") (codes " ") (pair_text g0.value) (pair_text g1.value)
          (pair_text g2.value)
          ∙ ap (λ us. codes "pass" ++ spaced us) (sym is);
      seen = c.1;
      has_text = (
        p0.0,
        p1.0,
        p2.0,
        some_pair (is_pair g0.value) (is_pair g1.value) (is_pair g2.value) c.0,
      );
    }

pub leave_spelled : (fs : Fields) (l : AuditLine) → left fs ≡ Some (l, []) → Spells (codes "leave") fs l
unfolding left
leave_spelled fs l h =
    let y : AuditLine × Fields = (l, []) in
    let g0 = goes (tested is_name fs) _ y h in
    let g1 = goes (tested is_word g0.rest) _ y g0.next in
    let p = name_taken fs g0.value g0.rest g0.first in
    let w = word_taken g0.rest g1.value g1.rest g1.first in
    let both = same_read g1.next in
    let is = and_then p.1 (and_then w.2 both.1) in
    record {
      line = leave g0.value w.0;
      is = regroup_leave (codes "leave") (codes " ") g0.value (word_text_of w.0)
          ∙ ap (λ us. codes "leave" ++ spaced us) (sym is);
      seen = both.0;
      has_text = (p.0, w.1);
    }

-- ---- and with the name and the newline

pub spelled : (text name : List ℕ) (fs : Fields) (l : AuditLine) → text ≡ name ++ spaced fs
    → Spells name fs l → LineIsSpelled text l
spelled text name fs l is s = record {
  line = s.line;
  is = line_text_is s.line ∙ ap (λ t. t ++ codes "\n") (s.is ∙ sym is);
  seen = s.seen;
  has_text = s.has_text;
}
