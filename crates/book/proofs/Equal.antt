-- What `==` and `!=` of terminals say.
use Rattle.std.proofs.Common.{◌≡◌, ◌≢◌, true, false, not, rules}
use Rattle.book.specs.contracts.terminals.TerminalPartialEq.TheImpl as terminal_eq
use Rattle.book.specs.declared.terminals.Terminal.{Terminal}

pub same : (a b : Terminal) → (terminal_eq.ghosts).eq a b ≡ true → a ≡ b
same a b h = search rules

pub differ : (a b : Terminal) → (terminal_eq.ghosts).eq a b ≡ false → a ≢ b
differ a b h = search rules

pub no_other : (a b : Terminal) → not ((terminal_eq.ghosts).eq a b) ≡ false → a ≡ b
no_other a b h = search rules

pub other : (a b : Terminal) → not ((terminal_eq.ghosts).eq a b) ≡ true → a ≢ b
other a b h = search rules
