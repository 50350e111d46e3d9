-- What the table reads of an overlay word.
use Rattle.std.specs.Prelude.{pos, Bool, true, false}
use Rattle.cap_words.specs.declared.Word.{Word}
use Rattle.cap_words.specs.declared.Word.TheVariants.{Sealed}
use Rattle.cap_words.specs.declared.Perm.TheVariants.{No}
use Rattle.cap_words.specs.declared.Lin.TheVariants.{Linear}
use Rattle.cap_words.specs.declared.Sealable.TheVariants.{Mem, Seal}
use Rattle.overlay_machine.specs.declared.words.OWord.{OWord}
use Rattle.overlay_machine.specs.declared.words.OWord.TheVariants.{Plain, RetCode, RetData}

-- a RetCode counts as a sealed word with normal content, a RetData as one with linear content: of sealed
-- words the table reads no more, but at `xjmp`, where a case of its own stands for them
abbrev pub look : OWord → Word
look (Plain w) = w
look (RetCode i) = Sealed 0 (Seal (record { base = 0; end = 0; cur = pos 0 }))
look (RetData k) = Sealed 0 (Mem (record { perm = No; lin = Linear; base = 0; end = 0; addr = pos 0 }))

abbrev pub is_plain : OWord → Bool
is_plain (Plain w) = true
is_plain (RetCode i) = false
is_plain (RetData k) = false

abbrev pub is_ret_code : OWord → Bool
is_ret_code (Plain w) = false
is_ret_code (RetCode i) = true
is_ret_code (RetData k) = false

-- a word that is no RetCode, and one that is no RetData
abbrev pub IsNoRetCode : OWord → Type 0
IsNoRetCode (RetCode i) = ⊥
IsNoRetCode _ = Unit {0}

abbrev pub IsNoRetData : OWord → Type 0
IsNoRetData (RetData k) = ⊥
IsNoRetData _ = Unit {0}
