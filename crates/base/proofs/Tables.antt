-- The proof of a table: of a row, and of the rows after it.
infixr 30 ◌&◌
pub ◌&◌ : {A B : Type 0} → A → B → A × B
a & b = (a, b)
