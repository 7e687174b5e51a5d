use Rattle.std.proofs.Common.{[], ◌∙◌, refl, sym}
use Rattle.command_texts.proofs.FrontReading.{no_account, plain_stands}
use Rattle.command_texts.proofs.reading.fronts.plain_begun.Goals as goal

pub returns-in-Some : goal.returns-in-Some
returns-in-Some c = record {
  command = plain_stands c.in-Some.account
      (sym c.in-Some.is ∙ c.in_ok-account.ensures (record { user = []; password = [] }) no_account refl refl);
  octets = refl;
}

pub returns-in-None : goal.returns-in-None
returns-in-None c = let found = c.in_ok-account.ensures (record { user = []; password = [] }) no_account refl refl in let none = c.in-None.is in cc
