mod Answering
mod Leading
mod Printed
mod Printing
