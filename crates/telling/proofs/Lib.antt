mod Begun
mod Commands
mod Counting
mod Escapes
mod Fronts
mod Lines
mod Printed
