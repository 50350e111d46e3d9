use Rattle.std.proofs.Common.{◌≡◌, ◌∙◌, List, [], ◌∷◌, ℕ, ◌++◌, codes, rules, arith, subst}
use Rattle.std.proofs.lemmas.Grind.{common_steps}
use Rattle.outside_io.specs.Writes.{Writes}
use Rattle.cap_words.specs.declared.Word.{Word}
use Rattle.cap_words.specs.Text.{word_text_of}
use Rattle.source_events.specs.declared.FeedBack.{FeedBack}
use Rattle.source_events.specs.Forms.{back_text}
use Rattle.run_lines.specs.Lines.{Args, enter}
use Rattle.run_lines.specs.Texts.{field, args_text, line_text}
use Rattle.trace_tool.proofs.write.write_enter.Goals as goal

-- the pieces of the line, one after the other
pieces : (part export : List ℕ) (stk : Word) (args : Args) (back : FeedBack) (a b : List ℕ)
    {c d e f g h : List ℕ}
    → a ≡ codes "enter " → b ≡ a ++ part → c ≡ b ++ field export → d ≡ c ++ field (word_text_of stk)
    → e ≡ d ++ args_text args → f ≡ e ++ codes " " → g ≡ f ++ back_text back → h ≡ g ++ codes "\n"
    → h ≡ line_text (enter part export stk args back)
unfolding line_text
pieces part export stk args back x y a b c d e f g h =
    rw (h, g, f, e, d, c, b, a) (grind (arith, common_steps))

pub returns : goal.returns
returns g c =
    subst (λ t. Writes (g.S.Sink.seen c.args.out.now) (t ∷ []) c.write.result (g.S.Sink.seen c.write.new.out))
    (c.as_slice.ensures.value
    ∙ pieces _ _ _ _ _ c.push.new.head.items c.push-2.new.head.items (search rules) (search rules)
    (search rules)
    c.push_word.ensures.bytes c.push_args.ensures.bytes c.push-3.ensures.bytes c.push_back.ensures.bytes
    c.push-4.ensures.bytes) c.write.ensures
