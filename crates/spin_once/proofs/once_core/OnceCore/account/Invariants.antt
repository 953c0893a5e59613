use Rattle.spin_once.proofs.once_core.OnceCore.account.Given as goal

abbrev pub ghost-watch : goal.ghost-watch
ghost-watch g a = a.self.now.opening.name
