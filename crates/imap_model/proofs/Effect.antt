-- What the table of commands says of the server alone.
use Rattle.std.proofs.Common.{◌≡◌, ◌⊎◌, inl, inr, ℕ, List, Option}
use Rattle.imap_model.specs.Carrying.{Waiting, Accepted, Carries}
use Rattle.imap_model.specs.CarriedOut.{CarriesOut, Fulfils, Decides}
use Rattle.imap_model.specs.declared.command.Command.{Command}
use Rattle.imap_model.specs.declared.command.Command.TheVariants as commands
use Rattle.imap_model.specs.declared.ending.Ending.{Ending}
use Rattle.imap_model.specs.declared.ending.Ending.TheVariants as endings
use Rattle.imap_model.specs.declared.replies.Replies.{Replies}
use Rattle.imap_model.specs.declared.server.Server.{Server}

module _ (w : Waiting) (s : Server) (r : Replies) (t : Server) (after : Option (List ℕ)) where
  fulfilled : (command : Command) → Fulfils command w s r t after → Accepted w.selected w.tag command s t
  fulfilled commands.Capability f = f.stays.server
  fulfilled (commands.Login account) f = f.stays.server
  fulfilled (commands.Plain account) f = f.stays.server
  fulfilled (commands.Enable rev2) f = f.stays.server
  fulfilled (commands.Select name since) f = f.server
  fulfilled commands.FetchAll f = f.stays.server
  fulfilled (commands.FetchRow uid) f = f.stays.server
  fulfilled (commands.Search from id) f = f.stays.server
  fulfilled (commands.FetchIds uids) f = f.stays.server
  fulfilled (commands.FetchText uid) f = f.stays.server
  fulfilled (commands.Store uid since add flags) (inl f) = inl f.effect
  fulfilled (commands.Store uid since add flags) (inr f) = inr f.effect
  fulfilled (commands.Shift uid to) (inl f) = inl f.effect
  fulfilled (commands.Shift uid to) (inr f) = inr f.effect
  fulfilled (commands.Copy uid to) (inl f) = inl f.effect
  fulfilled (commands.Copy uid to) (inr f) = inr f.effect
  fulfilled (commands.Expunge uid) (inl f) = inl f.effect
  fulfilled (commands.Expunge uid) (inr f) = inr f.effect
  fulfilled (commands.Append to flags text) f = f.effect
  fulfilled commands.Logout f = f.stays.server

  decided : (ending : Ending) (command : Command) → Decides ending command w s r t after → (t ≡ s) ⊎ Accepted w.selected w.tag command s t
  decided endings.Ok command d = inr (fulfilled command d)
  decided endings.No command d = inl d.server
  decided endings.Bad command d = inl d.server

pub carried_effect : (w : Waiting) (s : Server) (r : Replies) (t : Server) (after : Option (List ℕ)) → CarriesOut w s r t after → Carries w s t
carried_effect w s r t after d = decided w s r t after r.ending w.command d
